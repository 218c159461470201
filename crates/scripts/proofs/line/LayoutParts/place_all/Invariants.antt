use Rattle.std.proofs.Common.{◌≡◌, drop}
use Rattle.scripts.specs.Definitions.{place_all}
use Rattle.scripts.proofs.Folds.{with}
use Rattle.scripts.proofs.line.LayoutParts.place_all.Given as goal

-- the parts put in so far, and then those that are left
abbrev pub invariant-loop-part : goal.invariant-loop-part
invariant-loop-part l =
    place_all l.initial.self l.all
    ≡ with l.in_range (place_all l.self (drop l.part-index l.all))
