-- The test of equal layouts is symmetric and transitive, as an implementation of `==` has to show.
use Rattle.std.specs.Cmp.{IsEquivalence, IsPartialEquivalence, partial_equiv_from_equiv, and_equiv, on_equiv, nat_eq_equiv, bool_eq_equiv}
use Rattle.std.specs.Cmp.Lexicographic.{lists_equiv, options_equiv}
use Rattle.layouts.specs.Equal.{same_special, same_immediates, same_group, same_layout}

special_equiv : IsEquivalence same_special
special_equiv =
    and_equiv (on_equiv (λ c. c.root_index) nat_eq_equiv)
    (on_equiv (λ c. c.own_signature) bool_eq_equiv)

immediates_equiv : IsEquivalence same_immediates
immediates_equiv =
    and_equiv (on_equiv (λ i. i.root_index) nat_eq_equiv) (on_equiv (λ i. i.size) nat_eq_equiv)

group_equiv : IsEquivalence same_group
group_equiv =
    and_equiv (on_equiv (λ g. g.base_root_index) nat_eq_equiv)
    (and_equiv (on_equiv (λ g. g.table) bool_eq_equiv) (on_equiv (λ g. g.uniforms) nat_eq_equiv))

pub layout_per : IsPartialEquivalence same_layout
layout_per = partial_equiv_from_equiv
    (and_equiv (on_equiv (λ l. l.signature) nat_eq_equiv)
    (and_equiv (on_equiv (λ l. l.total_root_elements) nat_eq_equiv)
    (and_equiv (on_equiv (λ l. l.special_constants) (options_equiv special_equiv))
    (and_equiv (on_equiv (λ l. l.immediates_info) (options_equiv immediates_equiv))
    (on_equiv (λ l. l.bind_group_infos) (lists_equiv (options_equiv group_equiv)))))))
