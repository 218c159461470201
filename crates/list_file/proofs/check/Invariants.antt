use Rattle.std.proofs.Common.{◌≡◌, ◌-◌, length}
use Rattle.list_file.proofs.Tails.{Counted}
use Rattle.list_file.proofs.check.Given as goal

abbrev pub invariant-loop-count : goal.invariant-loop-count
invariant-loop-count l = (l.reader.file.now ≡ l.file) × Counted l.file l.reader.at l.count

abbrev pub decreases-loop-count : goal.decreases-loop-count
decreases-loop-count l = length l.file - l.reader.at
