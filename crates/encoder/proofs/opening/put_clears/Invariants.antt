use Rattle.std.proofs.Common.{drop}
use Rattle.encoder.specs.Opening.{clear_records}
use Rattle.encoder.proofs.Coming.{Coming}
use Rattle.encoder.proofs.opening.put_clears.Given as goal

abbrev pub invariant-loop-place : goal.invariant-loop-place
invariant-loop-place g l =
    Coming (clear_records l.fn.attachments) (g.R.Recorder.meaning l.fn.recorder) (clear_records (drop l.place l.fn.attachments)) (g.R.Recorder.meaning l.recorder)
