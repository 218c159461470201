use Rattle.std.proofs.Common.{refl}
use Rattle.std.proofs.Output.{has_written_append}
use Rattle.scripts.proofs.shown.element_to.Goals as goal

pub returns-in_ok-write-in-Immediates : goal.returns-in_ok-write-in-Immediates
returns-in_ok-write-in-Immediates g c = λ plain ok.
    let head = c.in_ok-write-in-Immediates.ensures.writes plain refl in
    let tail = rw c.words_at.ensures at (c.words_to.ensures head.plain ok) in
    rw c.in-Immediates.is (has_written_append _ _ _ _ _ _ head tail)
