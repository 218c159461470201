use Rattle.std.proofs.Common.{arith}
use Rattle.device.proofs.Spending.{still_spent}
use Rattle.device.proofs.ration.RationRecorder.record.Goals as goal

pub invariant_of-self-2 : goal.invariant_of-self-2
invariant_of-self-2 g c =
    let s = c.args.self.now in
    record {
      spent = still_spent
          (g.R.Recorder.meaning s.below) (g.R.Recorder.meaning c.record.new.self) _ s.rest s.most c.in_ok-bytes.bytes
          s.spent c.in_ok-record.ensures.recorded (omega (arith, c.in_ok-bytes.ensures, c.in_ok-size.ensures)) (omega (arith, c.in_ok-bytes.ensures));
    }
