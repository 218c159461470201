use Rattle.std.proofs.Common.{ap, ◌∙◌, arith}
use Rattle.passes.specs.Flush.{firsts}
use Rattle.passes.specs.State.{bound_of}
use Rattle.passes.proofs.Slots.{firsts_taken}
use Rattle.passes.proofs.roots.RootState.used_immediates.Goals as goal

pub returns-clause-words : goal.returns-clause-words
returns-clause-words c =
    let xs = c.args.self.now.immediates in
    firsts_taken c.words_used.result 0 xs (omega (arith, c.words_used.ensures.few)) ∙ ap (firsts (bound_of c.args.self.now).immediates 0) c.words_used.ensures.value
