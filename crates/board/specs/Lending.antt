-- A half of the state that is lent.
use Rattle.std.specs.Borrow.{Lends, MutBor, Fml}
use Rattle.command_list.specs.declared.command.Half.{Half}
use Rattle.board.specs.declared.state.RootHalf.{RootHalf}
use Rattle.board.specs.declared.state.State.{State}
use Rattle.board.specs.contracts.state.RootHalf as root_half
use Rattle.board.specs.contracts.state.State as state
use Rattle.board.specs.Boards.{with_half}

-- r lends a half of s: what is last written through r ends up there, and the rest stays
abbrev pub LendsHalf : MutBor State → Half → MutBor RootHalf → Fml
LendsHalf s h r = Lends state.the_row root_half.the_row s r (with_half s.now h)
