use Rattle.std.proofs.Common.{◌≡◌, ◌++◌, length, option_map}
use Rattle.scripts.specs.Fronts.{all}
use Rattle.scripts.proofs.fronts.all.Given as goal

-- the words say what was read so far, and then what the rest says
abbrev pub invariant-loop-rest : goal.invariant-loop-rest
invariant-loop-rest g l =
    all g.T.Front.said l.words ≡ option_map (λ others. l.all.items ++ others) (all g.T.Front.said l.rest)

abbrev pub decreases-loop-rest : goal.decreases-loop-rest
decreases-loop-rest g l = length l.rest
