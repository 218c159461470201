use Rattle.std.proofs.Common.{refl}
use Rattle.yefrannir.proofs.Steps.{shorter}
use Rattle.yefrannir.proofs.named.Named.each_record.Goals as goal

pub loop-visit-smaller : goal.loop-visit-smaller
loop-visit-smaller g c =
    shorter _ _ _ _ _ _ _ _ _ c.in_ok-record.ensures.cases c.in_ok-record.ensures.variant refl c.in-Some.is c.next.ensures.gives c.loop-visit.invariant.1
