use Rattle.std.proofs.Common.{◌≡◌, ◌&&◌, leb, ltb, sym, ap, ◌∙◌, rules, of_calls}
use Rattle.command_list.specs.Bits.{bit}
use Rattle.layouts.specs.Owners.{first_uniform, behind, is_table, is_uniform}
use Rattle.layouts.proofs.Owning.{tables_of, uniforms_of, span_among}
use Rattle.layouts.proofs.checks.RootParts.masks.Goals as goal

pub returns-clause-tables : goal.returns-clause-tables
returns-clause-tables c = c.mask-tables.ensures is_table (λ g m p k.
    let e : bit m k ≡ (leb g.base_root_index k && (ltb k (first_uniform g) && ltb k 64)) = search (rules, of_calls) in
    e ∙ span_among g.base_root_index (first_uniform g) k ∙ ap (λ b. ltb k 64 && b) (sym (tables_of k g)))

pub returns-clause-uniforms : goal.returns-clause-uniforms
returns-clause-uniforms c = c.mask-uniforms.ensures is_uniform (λ g m p k.
    let e : bit m k ≡ (leb (first_uniform g) k && (ltb k (behind g) && ltb k 64)) = search (rules, of_calls) in
    e ∙ span_among (first_uniform g) (behind g) k ∙ ap (λ b. ltb k 64 && b) (sym (uniforms_of k g)))
