use Rattle.std.proofs.Common.{◌≡◌}
use Rattle.device.proofs.Arrays.{read_replicate}
use Rattle.board.specs.Boards.{slot_of, no_slot}
use Rattle.board.proofs.state.RootHalf.new.Goals as goal

pub returns : goal.returns
returns c =
    let none = c.default.ensures in
    let slot : c.default.result ≡ no_slot = λ i. record { held = none.0 i; writes = none.1 i } in
    let at = read_replicate 64 _ no_slot slot in
    λ i. record { signature = 0; slots = λ q. slot_of (at q i).held; writes = λ q. (at q i).writes }
