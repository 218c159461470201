use Rattle.std.proofs.Common.{◌≤◌, length, take}
use Rattle.std.specs.List.{flat_map}
use Rattle.list_writer.specs.Writing.{Laid}
use Rattle.list_writer.proofs.operands.RefSliceOperands.lay.Given as goal

abbrev pub invariant-loop-x : goal.invariant-loop-x
invariant-loop-x g l = Laid (flat_map g.T.Operands.laid (take l.x-index l.self)) l.initial.out l.out l.at × (l.at ≤ length l.out)
