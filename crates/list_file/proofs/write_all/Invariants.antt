use Rattle.std.proofs.Common.{map}
use Rattle.command_list.specs.Seen.{given_command}
use Rattle.list_file.proofs.Sizes.{Sofar}
use Rattle.list_file.proofs.write_all.Given as goal

abbrev pub invariant-loop-command : goal.invariant-loop-command
invariant-loop-command l = Sofar (map given_command l.commands) l.command-index l.initial.bytes l.end l.bytes
