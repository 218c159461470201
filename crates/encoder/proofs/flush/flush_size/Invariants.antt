use Rattle.std.proofs.Common.{◌≡◌, ℕ, ◌^◌, ◌<◌, true}
use Rattle.command_list.specs.Bits.{bit}
use Rattle.encoder.proofs.Turns.{Sizing}
use Rattle.encoder.proofs.flush.flush_size.Given as goal

abbrev pub invariant-loop-rest : goal.invariant-loop-rest
invariant-loop-rest g l =
    (l.rest < 2 ^ 64) × ((k : ℕ) → bit l.rest k ≡ true → k < g.T.Table.places) × Sizing (g.T.Table.commands l.fn.table) l.fn.dirty l.rest l.size

abbrev pub decreases-loop-rest : goal.decreases-loop-rest
decreases-loop-rest g l = l.rest
