use Rattle.std.proofs.Common.{flat_map, take}
use Rattle.std.specs.Fmt.{HasWritten, IsPlainFormatter}
use Rattle.command_list.specs.Commands.{entry}
use Rattle.command_list.specs.Seen.{entries_of}
use Rattle.scripts.specs.Shown.{operands}
use Rattle.scripts.proofs.shown.entries_to.Given as goal

abbrev pub invariant-loop-i : goal.invariant-loop-i
invariant-loop-i g l =
    IsPlainFormatter l.initial.f
    → HasWritten g.W.Write.write_str_gives l.initial.f
    (operands (flat_map entry (take l.i (entries_of l.entries.bytes.now)))) l.f
