-- Layouts with equal parts are equal.
use Rattle.std.proofs.Common.{◌≡◌, ℕ, Bool, true, sym, ◌∙◌}
use mathlib.Core.HLevel.{is_prop→PathP, Π_prop}
use mathlib.Core.Bool.{Bool-set}
use Rattle.layouts.specs.declared.layout.PipelineLayout.{PipelineLayout}
use Rattle.layouts.specs.declared.info.Owner.{Owner}
use Rattle.command_list.specs.Bits.{bit}
use Rattle.layouts.specs.Owners.{sound, owner_of, owned, is_table, is_uniform}
use Rattle.layouts.proofs.Masks.{same_bits}

module _ (x y : PipelineLayout) (a : x.signature ≡ y.signature) (b : x.total_root_elements ≡ y.total_root_elements)
    (c : x.special_constants ≡ y.special_constants) (d : x.immediates_info ≡ y.immediates_info) (e : x.bind_group_infos ≡ y.bind_group_infos) where
  owner_equal : (kind : Owner → Bool) (k : ℕ)
      → owned kind (owner_of x.special_constants x.immediates_info x.bind_group_infos k) ≡ owned kind (owner_of y.special_constants y.immediates_info y.bind_group_infos k)
  owner_equal kind k = λ i. owned kind (owner_of (c i) (d i) (e i) k)

  tables_equal : x.tables ≡ y.tables
  tables_equal = same_bits x.tables y.tables (λ k. x.table_slots k ∙ owner_equal is_table k ∙ sym (y.table_slots k))

  uniforms_equal : x.uniforms ≡ y.uniforms
  uniforms_equal = same_bits x.uniforms y.uniforms (λ k. x.uniform_slots k ∙ owner_equal is_uniform k ∙ sym (y.uniform_slots k))

  pub layouts_equal : x ≡ y
  layouts_equal = λ i. record {
    signature = a i;
    total_root_elements = b i;
    special_constants = c i;
    immediates_info = d i;
    bind_group_infos = e i;
    tables = tables_equal i;
    uniforms = uniforms_equal i;
    ok = is_prop→PathP (λ j. sound (a j) (b j) (c j) (d j) (e j) ≡ true) (λ j. Bool-set (sound (a j) (b j) (c j) (d j) (e j)) true) x.ok y.ok i;
    table_slots = is_prop→PathP
        (λ j. (k : ℕ) → bit (tables_equal j) k ≡ owned is_table (owner_of (c j) (d j) (e j) k))
        (λ j. Π_prop (λ k. Bool-set (bit (tables_equal j) k) (owned is_table (owner_of (c j) (d j) (e j) k))))
        x.table_slots y.table_slots i;
    uniform_slots = is_prop→PathP
        (λ j. (k : ℕ) → bit (uniforms_equal j) k ≡ owned is_uniform (owner_of (c j) (d j) (e j) k))
        (λ j. Π_prop (λ k. Bool-set (bit (uniforms_equal j) k) (owned is_uniform (owner_of (c j) (d j) (e j) k))))
        x.uniform_slots y.uniform_slots i;
  }
