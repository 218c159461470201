use Rattle.std.proofs.Common.{◌≡◌, ℕ, ◌^◌, ◌<◌, true}
use Rattle.command_list.specs.Bits.{bit}
use Rattle.device.specs.Writes.{gathered}
use Rattle.encoder.proofs.Coming.{Coming}
use Rattle.encoder.proofs.flush.flush.Given as goal

abbrev pub invariant-loop-rest : goal.invariant-loop-rest
invariant-loop-rest g l =
    (l.rest < 2 ^ 64) × ((k : ℕ) → bit l.rest k ≡ true → k < g.T.Table.places)
    × Coming (gathered (bit l.fn.dirty) (g.T.Table.commands l.fn.table) 0 64) (g.R.Recorder.meaning l.fn.recorder) (gathered (bit l.rest) (g.T.Table.commands l.fn.table) 0 64) (g.R.Recorder.meaning l.recorder)

abbrev pub decreases-loop-rest : goal.decreases-loop-rest
decreases-loop-rest g l = l.rest
