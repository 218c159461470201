use Rattle.std.proofs.Common.{refl}
use Rattle.scripts.proofs.Slots.{slot_written}
use Rattle.scripts.proofs.shown.views_to.Goals as goal

pub loop-slot-preserved : goal.loop-slot-preserved
loop-slot-preserved g c = λ plain.
    slot_written _ _ _ _ c.loop-slot-test.true (c.loop-slot.invariant plain)
    (c.in_ok-view_to.ensures (c.loop-slot.invariant plain).plain refl)
