use Rattle.std.proofs.Common.{◌≡◌, ◌-◌, length}
use Rattle.yefrannir.proofs.named.Named.each_record.Given as goal

abbrev pub invariant-loop-visit : goal.invariant-loop-visit
invariant-loop-visit g l = goal.V-IsAlwaysCallable g l.visit × (l.reader.file.now ≡ l.self.list.now)

abbrev pub decreases-loop-visit : goal.decreases-loop-visit
decreases-loop-visit g l = length l.self.list.now - l.reader.at
