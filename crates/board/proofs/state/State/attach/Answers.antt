use Rattle.std.proofs.Common.{◌≡◌, ℕ, ◌+◌, ◌<◌, length, get_or, set, ap, ◌∙◌, arith}
use Rattle.device.specs.Devices.{update, attached}
use Rattle.device.proofs.Arrays.{read_set}
use Rattle.board.specs.declared.state.Slot.{Slot}
use Rattle.board.specs.declared.state.State.{State}
use Rattle.board.specs.declared.state.View.{View}
use Rattle.board.specs.Boards.{view_of, no_vertex, device_of}
use Rattle.board.proofs.state.State.attach.Goals as goal

-- a state with one vertex view replaced and counted
attached_device : (s : State) (i : ℕ) (p : Slot View) (v : View) → i < length s.vertices → p ≡ record { held = v; writes = (get_or s.vertices i no_vertex).writes + 1 }
    → device_of (record s { vertices = set s.vertices i p }) ≡ attached i (view_of v) (device_of s)
attached_device s i p v h e = let d = device_of s in λ j. record d {
  vertices = (read_set (λ t. view_of t.held) s.vertices i p no_vertex h ∙ ap (λ t. update d.vertices i (view_of t.held)) e) j;
  vertex_writes = (read_set (λ t. t.writes) s.vertices i p no_vertex h ∙ ap (λ t. update d.vertex_writes i t.writes) e) j;
}

pub returns : goal.returns
returns c = attached_device c.args.self.now c.args.i _ c.args.view (omega arith) c.put.ensures
