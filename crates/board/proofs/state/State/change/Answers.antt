use Rattle.std.proofs.Common.{sym}
use Rattle.board.specs.Boards.{device_of}
use Rattle.board.proofs.Spares.{list_effect}
use Rattle.board.proofs.state.State.change.Goals as goal

pub returns-in_default : goal.returns-in_default
returns-in_default g c = sym (list_effect (g.C.Recordable.says c.args.command) (device_of c.args.self.now) c.in_default.ensures)
