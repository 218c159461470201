use Rattle.std.proofs.Common.{rules, refl}
use Rattle.command_list.specs.Commands.{unit}
use Rattle.scripts.proofs.Listed.{row_written, row_there}
use Rattle.scripts.proofs.shown.units_to.Goals as goal
use Rattle.scripts.proofs.shown.units_to.Goals.{in-Some+in_ok-write, in_default}

pub loop-i-preserved : goal.loop-i-preserved
loop-i-preserved g c = elim c.match-get.branch [
  | in-Some+in_ok-write w ↦ λ plain.
      row_written unit _ _ _ (w.in-Some.ensures.listed _ refl) (c.loop-i.invariant plain)
      (let done = c.loop-i.invariant plain in search rules)
  | in_default w ↦ absurd (row_there _ _ _ (c.len-i-end.ensures.listed _ refl) c.loop-i-test.true
      (w.in_default.ensures.listed _ refl))
]
