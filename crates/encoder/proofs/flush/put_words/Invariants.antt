use Rattle.std.proofs.Common.{drop}
use Rattle.device.specs.Writes.{word_commands}
use Rattle.encoder.proofs.Coming.{Coming}
use Rattle.encoder.proofs.flush.put_words.Given as goal

abbrev pub invariant-loop-w : goal.invariant-loop-w
invariant-loop-w g l =
    Coming (word_commands l.fn.half l.fn.slot 0 l.fn.words) (g.R.Recorder.meaning l.fn.recorder) (word_commands l.fn.half l.fn.slot l.w (drop l.w l.fn.words)) (g.R.Recorder.meaning l.recorder)
