use Rattle.std.proofs.Common.{flat_map, take}
use Rattle.std.specs.Fmt.{HasWritten, IsPlainFormatter}
use Rattle.command_list.specs.Commands.{handle}
use Rattle.command_list.specs.Seen.{every}
use Rattle.scripts.specs.Shown.{operands}
use Rattle.scripts.proofs.shown.handles_to.Given as goal

abbrev pub invariant-loop-i : goal.invariant-loop-i
invariant-loop-i g l =
    IsPlainFormatter l.initial.f
    → HasWritten g.W.Write.write_str_gives l.initial.f
    (operands (flat_map handle (take l.i (every 8 l.handles.bytes.now)))) l.f
