use Rattle.std.proofs.Common.{◌∷◌, get_or, take}
use Rattle.std.specs.Fmt.{HasWritten, IsPlainFormatter}
use Rattle.scripts.specs.Shown.{word_list}
use Rattle.scripts.proofs.shown.words_to.Given as goal

abbrev pub invariant-loop-word : goal.invariant-loop-word
invariant-loop-word g l =
    IsPlainFormatter l.fn.f
    → HasWritten g.W.Write.write_str_gives l.fn.f
    (word_list (get_or l.words 0 0 ∷ take l.word-index l.rest)) l.f
