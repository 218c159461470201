use Rattle.std.proofs.Common.{take}
use Rattle.std.specs.Fmt.{HasWritten, IsPlainFormatter}
use Rattle.scripts.specs.Shown.{by_slot, shown_element}
use Rattle.scripts.proofs.shown.elements_to.Given as goal

abbrev pub invariant-loop-slot : goal.invariant-loop-slot
invariant-loop-slot g l =
    IsPlainFormatter l.initial.f
    → HasWritten g.W.Write.write_str_gives l.initial.f
    (by_slot (shown_element l.roots) (take l.slot l.elements)) l.f
