use Rattle.std.proofs.Common.{arith}
use Rattle.encoder.proofs.Coming.{coming_start, coming_next, coming_fits, coming_end, put_recorded}
use Rattle.encoder.proofs.Turns.{turn, gathered_done}
use Rattle.encoder.proofs.flush.flush.Goals as goal

pub loop-rest-init : goal.loop-rest-init
loop-rest-init g c = (omega arith, c.requires.within, coming_start _ _)

pub write-requires-clause-within : goal.write-requires-clause-within
write-requires-clause-within g c =
    let i = c.loop-rest.invariant in
    i.1 _ (turn _ c.loop-rest-test.true i.0).here

pub write-requires-clause-fits : goal.write-requires-clause-fits
write-requires-clause-fits g c =
    let i = c.loop-rest.invariant in
    coming_fits _ _ _ _ _ _ ((turn _ c.loop-rest-test.true i.0).next _) i.2 c.requires.fits

pub loop-rest-smaller : goal.loop-rest-smaller
loop-rest-smaller g c = (turn _ c.loop-rest-test.true c.loop-rest.invariant.0).falls

pub loop-rest-preserved : goal.loop-rest-preserved
loop-rest-preserved g c =
    let i = c.loop-rest.invariant in
    let t = turn _ c.loop-rest-test.true i.0 in
    (omega (arith, t.falls, i.0), λ k e. i.1 k (t.kept k e).0, coming_next _ _ _ _ _ _ (t.next _) i.2 _ (put_recorded _ _ _ _ c.write.ensures))

pub returns : goal.returns
returns g c = coming_end _ _ _ _ (gathered_done _ _ c.loop-rest-test.false) c.loop-rest.invariant.2
