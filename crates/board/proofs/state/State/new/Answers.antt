use Rattle.std.proofs.Common.{◌≡◌, ℕ, List, get_or, replicate, None, refl}
use mathlib.Core.Path.{fun_ext}
use Rattle.command_list.specs.declared.command.Half.{Half}
use Rattle.command_list.specs.declared.command.Half.TheVariants.{Graphics, Compute}
use Rattle.device.specs.Devices.{start}
use Rattle.device.proofs.Arrays.{read_replicate}
use Rattle.board.specs.declared.state.RootHalf.{RootHalf}
use Rattle.board.specs.declared.state.Slot.{Slot}
use Rattle.board.specs.declared.state.State.{State}
use Rattle.board.specs.declared.state.View.{View}
use Rattle.board.specs.Boards.{roots_of, view_of, no_vertex, halves_of, device_of}
use Rattle.board.proofs.state.State.new.Goals as goal

-- a state of these parts, with no pipeline and no draw
abbrev with_parts : RootHalf → RootHalf → List (Slot View) → List ℕ → State
with_parts g h vs ns = record { graphics = g; compute = h; vertices = vs; pipeline = 0; latest = None; counts = ns }

-- it is the start if nothing is set in them
start_device : (g h : RootHalf) (vs : List (Slot View)) (ns : List ℕ) → roots_of g ≡ start.halves Graphics → roots_of h ≡ start.halves Compute
    → ((q : ℕ) → get_or vs q no_vertex ≡ no_vertex) → ((q : ℕ) → get_or ns q 0 ≡ 0) → device_of (with_parts g h vs ns) ≡ start
start_device g h vs ns a b v n = λ i. record start { halves = fun_ext by i; vertices = λ q. view_of (v q i).held; vertex_writes = λ q. (v q i).writes; counts = λ q. n q i }
  where
    by : (k : Half) → halves_of (with_parts g h vs ns) k ≡ start.halves k
    by Graphics = a
    by Compute = b

pub returns : goal.returns
returns c =
    let none = c.default.ensures in
    let slot : c.default.result ≡ no_vertex = λ i. record { held = record { address = none.0.0 i; size = none.0.1.0 i; stride = none.0.1.1 i }; writes = none.1 i } in
    start_device _ _ (replicate 16 _) (replicate 32 0) c.new.ensures c.new-2.ensures (read_replicate 16 _ _ slot) (read_replicate 32 0 0 refl)
