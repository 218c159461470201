use Rattle.std.proofs.Common.{◌≡◌, ◌-◌, ◌/◌, ◌%◌}
use Rattle.command_list.proofs.Types.{typed_from}
use Rattle.command_list.proofs.row.BarrierRow.are_rows.Given as goal

abbrev pub invariant-loop-at : goal.invariant-loop-at
invariant-loop-at l = (l.at % 17 ≡ 0) × (typed_from (l.at / 17) l.bytes ≡ typed_from 0 l.bytes)

abbrev pub decreases-loop-at : goal.decreases-loop-at
decreases-loop-at l = l.end - l.at
