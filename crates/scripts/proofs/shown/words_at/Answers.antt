use Rattle.std.proofs.Common.{arith, min, ap, ◌∙◌}
use Rattle.scripts.proofs.Slots.{min_taken}
use Rattle.scripts.proofs.shown.words_at.Goals as goal

pub returns : goal.returns
returns c =
    min_taken _ _ _ (c.min-count.ensures ∙ ap (λ n. min n 32) c.count_at.ensures) (omega arith)
