-- What the board's data mean.
use Rattle.std.specs.Prelude.{ℕ, ◌+◌, ◌≤◌, get_or, Some, None, Option, slice_index, slice_index_or}
use Rattle.command_list.specs.declared.command.Half.{Half}
use Rattle.command_list.specs.declared.command.Half.TheVariants.{Graphics, Compute}
use Rattle.command_list.specs.declared.command.Fixed.{Fixed}
use Rattle.command_list.specs.Commands.{Command}
use Rattle.command_list.specs.Seen.{fixed_command}
use Rattle.device.specs.Devices.{Slot, unset, table, view, words, Roots, VertexView, Device}
use Rattle.device.specs.Meaning.{Meaning}
use Rattle.board.specs.declared.state.RootSlot.{RootSlot}
use Rattle.board.specs.declared.state.RootSlot.TheVariants as slot
use Rattle.board.specs.declared.state.Slot.{Slot as Place}
use Rattle.board.specs.declared.state.RootHalf.{RootHalf}
use Rattle.board.specs.declared.state.View.{View}
use Rattle.board.specs.declared.state.State.{State}

abbrev pub slot_of : RootSlot → Slot
slot_of slot.Unset = unset
slot_of (slot.Table a) = table a
slot_of (slot.Buffer a) = view a
slot_of (slot.Words ws) = words (λ w. get_or ws w None)

-- what a slot past the last one holds: nothing, and no write
abbrev pub no_slot : Place RootSlot
no_slot = record { held = slot.Unset; writes = 0 }

abbrev pub roots_of : RootHalf → Roots
roots_of h = record {
  signature = h.signature;
  slots = λ i. slot_of (slice_index_or h.slots i no_slot).held;
  writes = λ i. (slice_index_or h.slots i no_slot).writes;
}

abbrev pub view_of : View → VertexView
view_of v = record { address = v.address; size = v.size; stride = v.stride }

abbrev pub no_view : View
no_view = record { address = 0; size = 0; stride = 0 }

abbrev pub no_vertex : Place View
no_vertex = record { held = no_view; writes = 0 }

abbrev pub half_of : State → Half → RootHalf
half_of s Graphics = s.graphics
half_of s Compute = s.compute

-- the state with another half
abbrev pub with_half : State → Half → RootHalf → State
with_half s Graphics g = record s { graphics = g }
with_half s Compute g = record s { compute = g }

abbrev pub halves_of : State → Half → Roots
halves_of s h = roots_of (half_of s h)

abbrev pub latest_of : Option Fixed → Option Command
latest_of None = None
latest_of (Some f) = Some (fixed_command f)

abbrev pub device_of : State → Device
device_of s = record {
  halves = halves_of s;
  vertices = λ i. view_of (slice_index_or s.vertices i no_vertex).held;
  vertex_writes = λ i. (slice_index_or s.vertices i no_vertex).writes;
  pipeline = s.pipeline;
  latest = latest_of s.latest;
  counts = λ k. slice_index s.counts k;
}

-- what a board means: it shows no commands
abbrev pub boarded : State → ℕ → ℕ → Meaning
boarded s rest most = record { device = device_of s; space = rest; made = most; shown = None }

-- no count is above most, with k to spare
abbrev pub Spare : (ℕ → ℕ) → ℕ → ℕ → Type 0
Spare f k most = (i : ℕ) → f i + k ≤ most

-- each record takes a byte at least, so no count passes the space that the board was made with
abbrev pub Spares : Device → ℕ → ℕ → Type 0
Spares d k most =
    Spare d.counts k most × Spare d.vertex_writes k most
    × Spare (d.halves Graphics).writes k most × Spare (d.halves Compute).writes k most
