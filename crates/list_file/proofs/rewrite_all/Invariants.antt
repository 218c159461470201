use Rattle.std.proofs.Common.{◌≡◌, ◌-◌, length}
use Rattle.list_file.proofs.Tails.{Again}
use Rattle.list_file.proofs.rewrite_all.Given as goal

abbrev pub invariant-loop-record : goal.invariant-loop-record
invariant-loop-record l = (l.reader.file.now ≡ l.file) × (l.end ≡ l.reader.at) × Again l.file l.reader.at l.out

abbrev pub decreases-loop-record : goal.decreases-loop-record
decreases-loop-record l = length l.file - l.reader.at
