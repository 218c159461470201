use Rattle.std.proofs.Common.{◌≡◌, length, sym, ◌∙◌, arith, rules, tests}
use Rattle.std.proofs.lemmas.Iterator.{YieldsList-from_slice, YieldsList-from_map}
use Rattle.std.proofs.lemmas.Iterator.Consumers.{YieldsList-at, sum_by_from_yields_List, fits_by_from_yields_list}
use Rattle.std.proofs.lemmas.List.Concat.{length-flat_map}
use Rattle.layouts.specs.Owners.{of_group, of_groups}
use Rattle.layouts.proofs.Steps.{groups_few}
use Rattle.layouts.proofs.checks.RootParts.count_groups.Goals as goal

pub sum-requires-clause-fits : goal.sum-requires-clause-fits
sum-requires-clause-fits c =
    let gs = c.args.self.now.groups in
    fits_by_from_yields_list _ _ c.map.result _ (YieldsList-from_map _ (λ g. length (of_group c.args.slot g)) (YieldsList-at c.map.ensures.source (YieldsList-from_slice gs cc)) c.map.ensures.closure (λ x r q k. search (rules, tests)))
    (omega (arith, length-flat_map (of_group c.args.slot) gs, groups_few c.args.slot gs))

pub returns : goal.returns
returns c =
    let gs = c.args.self.now.groups in
    let v : c.sum.result ≡ length (of_groups c.args.slot gs) =
    sum_by_from_yields_List _ _ c.map.result _ c.sum.ensures.ran (YieldsList-from_map _ (λ g. length (of_group c.args.slot g)) (YieldsList-at c.map.ensures.source (YieldsList-from_slice gs cc)) c.map.ensures.closure (λ x r q k. search (rules, tests)))
    ∙ sym (length-flat_map (of_group c.args.slot) gs) in
    record { value = v; few = omega (arith, v, groups_few c.args.slot gs) }
