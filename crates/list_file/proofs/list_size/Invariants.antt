use Rattle.std.proofs.Common.{◌≡◌, ◌≤◌, true, map, length, take}
use Rattle.command_list.specs.Files.{most_bytes, encoded}
use Rattle.list_file.specs.Passing.{all_readable}
use Rattle.command_list.specs.Seen.{given_command}
use Rattle.list_file.proofs.list_size.Given as goal

abbrev pub invariant-loop-command : goal.invariant-loop-command
invariant-loop-command l = (all_readable (take l.command-index (map given_command l.commands)) ≡ true) × (l.total ≡ length (encoded (take l.command-index (map given_command l.commands)))) × (l.total ≤ most_bytes)
