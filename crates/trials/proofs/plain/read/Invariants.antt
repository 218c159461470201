use Rattle.std.proofs.Common.{◌-◌, ◌≤◌, length}
use Rattle.trials.proofs.plain.read.Given as goal

abbrev pub invariant-loop-at : goal.invariant-loop-at
invariant-loop-at l = l.count ≤ l.at

abbrev pub decreases-loop-at : goal.decreases-loop-at
decreases-loop-at l = length l.file - l.at
