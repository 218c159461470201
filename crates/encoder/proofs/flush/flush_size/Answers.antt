use Rattle.std.proofs.Common.{arith}
use Rattle.encoder.proofs.Turns.{turn, sizing_start, sizing_next, sizing_end}
use Rattle.encoder.proofs.flush.flush_size.Goals as goal

pub loop-rest-init : goal.loop-rest-init
loop-rest-init g c = (omega arith, c.requires, sizing_start _ _)

pub size-size-requires : goal.size-size-requires
size-size-requires g c =
    let i = c.loop-rest.invariant in
    i.1 _ (turn _ c.loop-rest-test.true i.0).here

pub overflow_add-size : goal.overflow_add-size
overflow_add-size g c =
    let i = c.loop-rest.invariant in
    omega (arith, i.2.small, i.2.few, c.size-size.ensures.small)

pub loop-rest-smaller : goal.loop-rest-smaller
loop-rest-smaller g c = (turn _ c.loop-rest-test.true c.loop-rest.invariant.0).falls

pub loop-rest-preserved : goal.loop-rest-preserved
loop-rest-preserved g c =
    let i = c.loop-rest.invariant in
    let t = turn _ c.loop-rest-test.true i.0 in
    (omega (arith, t.falls, i.0), λ k e. i.1 k (t.kept k e).0, sizing_next _ _ _ _ _ t i.2 c.size-size.ensures.value c.size-size.ensures.small)

pub returns-clause-value : goal.returns-clause-value
returns-clause-value g c = (sizing_end _ _ _ _ c.loop-rest-test.false c.loop-rest.invariant.2).0

pub returns-clause-small : goal.returns-clause-small
returns-clause-small g c = (sizing_end _ _ _ _ c.loop-rest-test.false c.loop-rest.invariant.2).1
