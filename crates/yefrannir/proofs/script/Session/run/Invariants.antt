use Rattle.std.proofs.Common.{◌-◌, length}
use Rattle.yefrannir.proofs.script.Session.run.Given as goal

abbrev pub decreases-loop-done : goal.decreases-loop-done
decreases-loop-done l = length l.lines.items - l.done
