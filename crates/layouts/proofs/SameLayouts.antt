-- The test of two layouts says whether they are equal.
use Rattle.std.proofs.Common.{◌≡◌, Bool, ◌==◌, Some, None, Option, refl, ap, Decides}
use Rattle.std.specs.Bool.{beq}
use Rattle.std.specs.Cmp.{unsigned_Decides, booleans_Decides}
use Rattle.std.specs.Option.{option_eq}
use Rattle.std.specs.Cmp.Lexicographic.{pointwise_decides}
use Rattle.std.proofs.lemmas.Bool.{false≢true}
use Rattle.std.proofs.lemmas.Bool.Decides.{Decides-and}
use Rattle.layouts.specs.declared.info.BindGroupInfo.{BindGroupInfo}
use Rattle.layouts.specs.declared.info.ImmediatesInfo.{ImmediatesInfo}
use Rattle.layouts.specs.declared.info.PipelineLayoutSpecialConstants.{PipelineLayoutSpecialConstants}
use Rattle.layouts.specs.declared.layout.PipelineLayout.{PipelineLayout}
use Rattle.layouts.specs.Equal.{same_special, same_immediates, same_group, same_layout}
use Rattle.layouts.proofs.Alike.{layouts_equal}

special_decides : (c d : PipelineLayoutSpecialConstants) → Decides (same_special c d) (c ≡ d)
special_decides c d =
    let p = Decides-and (c.root_index == d.root_index) (beq c.own_signature d.own_signature) (unsigned_Decides _ _) (booleans_Decides _ _) in (
      (λ e. let q = p.0 e in λ i. record { root_index = q.0 i; own_signature = q.1 i }),
      (λ e. p.1 (ap (λ x. x.root_index) e, ap (λ x. x.own_signature) e)),
    )

immediates_decides : (i j : ImmediatesInfo) → Decides (same_immediates i j) (i ≡ j)
immediates_decides i j =
    let p = Decides-and (i.root_index == j.root_index) (i.size == j.size) (unsigned_Decides _ _) (unsigned_Decides _ _) in (
      (λ e. let q = p.0 e in λ k. record { root_index = q.0 k; size = q.1 k }),
      (λ e. p.1 (ap (λ x. x.root_index) e, ap (λ x. x.size) e)),
    )

group_decides : (g h : BindGroupInfo) → Decides (same_group g h) (g ≡ h)
group_decides g h =
    let rest = Decides-and (beq g.table h.table) (g.uniforms == h.uniforms) (booleans_Decides _ _) (unsigned_Decides _ _) in
    let p = Decides-and (g.base_root_index == h.base_root_index) _ (unsigned_Decides _ _) rest in (
      (λ e. let q = p.0 e in λ i. record { base_root_index = q.0 i; table = q.1.0 i; uniforms = q.1.1 i }),
      (λ e. p.1 (ap (λ x. x.base_root_index) e, (ap (λ x. x.table) e, ap (λ x. x.uniforms) e))),
    )

options_decide : {T : Type 0} {E : T → T → Bool} → ((x y : T) → Decides (E x y) (x ≡ y)) → (a b : Option T) → Decides (option_eq E a b) (a ≡ b)
options_decide d None None = (λ _. refl, λ _. refl)
options_decide d None (Some y) = (λ e. absurd (false≢true e), λ e. cc)
options_decide d (Some x) None = (λ e. absurd (false≢true e), λ e. cc)
options_decide d (Some x) (Some y) = (λ e. ap Some ((d x y).0 e), λ e. (d x y).1 cc)

pub layout_decides : (l m : PipelineLayout) → Decides (same_layout l m) (l ≡ m)
layout_decides l m =
    let groups = pointwise_decides (options_decide group_decides) l.bind_group_infos m.bind_group_infos in
    let immediates = Decides-and _ _ (options_decide immediates_decides l.immediates_info m.immediates_info) groups in
    let special = Decides-and _ _ (options_decide special_decides l.special_constants m.special_constants) immediates in
    let total = Decides-and _ _ (unsigned_Decides l.total_root_elements m.total_root_elements) special in
    let p = Decides-and _ _ (unsigned_Decides l.signature m.signature) total in (
      (λ e. let q = p.0 e in layouts_equal l m q.0 q.1.0 q.1.1.0 q.1.1.1.0 q.1.1.1.1),
      (λ e. p.1 (ap (λ x. x.signature) e, (ap (λ x. x.total_root_elements) e, (ap (λ x. x.special_constants) e, (ap (λ x. x.immediates_info) e, ap (λ x. x.bind_group_infos) e))))),
    )
