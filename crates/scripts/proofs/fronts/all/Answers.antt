use Rattle.std.proofs.Common.{arith, rules, length, ◌<◌, Vec, Global}
use Rattle.std.proofs.lemmas.Grind.{common_steps}
use Rattle.scripts.proofs.Rows.{one_more, at_end, stopped}
use Rattle.scripts.proofs.fronts.all.Goals as goal

pub returns-in_err-front : goal.returns-in_err-front
returns-in_err-front g c = let h : 0 < length c.loop-rest.rest.now = grind (arith, common_steps) in
    let k = stopped g.T.Front.said c.args.words.now c.loop-rest.rest.now c.loop-rest.all.items c.loop-rest.invariant (λ (v : Vec g.row.T.Denot Global). v.items) _ h c.in_err-front.ensures.reads in
    search (rules, k)

pub loop-rest-preserved : goal.loop-rest-preserved
loop-rest-preserved g c = rw c.skip-rest.ensures (rw c.in_ok-push.ensures.items
    (one_more g.T.Front.said c.args.words.now c.loop-rest.rest.now c.loop-rest.all.items c.loop-rest.invariant _ _ c.in_ok-front.ensures.reads c.in_ok-front.ensures.within.0 c.in_ok-front.ensures.within.1))

pub returns : goal.returns
returns g c = at_end g.T.Front.said c.args.words.now c.loop-rest.rest.now c.loop-rest.all.items c.loop-rest.invariant (grind (arith, common_steps))
