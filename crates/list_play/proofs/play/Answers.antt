use Rattle.list_file.proofs.Tails.{holds_accepted}
use Rattle.command_list.specs.Files.{file}
use Rattle.list_play.proofs.Passes.{accepted_some}
use Rattle.list_play.proofs.play.Goals as goal

pub overflow_sub-file : goal.overflow_sub-file
overflow_sub-file g c = accepted_some c.args.file.now (holds_accepted (file c.args.file.now) _ c.in_ok-count.ensures)
