use Rattle.std.proofs.Common.{refl}
use Rattle.scripts.proofs.Slots.{word_written}
use Rattle.scripts.proofs.shown.words_to.Goals as goal

pub loop-word-preserved : goal.loop-word-preserved
loop-word-preserved g c = λ plain.
    word_written _ _ _ c.loop-word-test.true (c.loop-word.invariant plain)
    (c.in_ok-write-2.ensures.writes (c.loop-word.invariant plain).plain refl)
