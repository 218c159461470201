use Rattle.std.proofs.Common.{◌≡◌, ◌-◌, length}
use Rattle.list_play.proofs.Passes.{Passed}
use Rattle.list_play.proofs.play_all.Given as goal

abbrev pub invariant-loop-record : goal.invariant-loop-record
invariant-loop-record g l = (l.reader.file.now ≡ l.file) × Passed l.file l.reader.at (g.R.Recorder.meaning l.initial.recorder) (g.R.Recorder.meaning l.recorder)

abbrev pub decreases-loop-record : goal.decreases-loop-record
decreases-loop-record g l = length l.file - l.reader.at
