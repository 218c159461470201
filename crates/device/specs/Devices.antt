-- The device's state, and what each command does to it. Slots, words and counts go by a number.
use Rattle.std.specs.Prelude.{ℕ, ◌+◌, cond, List, [], ◌∷◌, Some, None, Option, ◌==◌}
use Rattle.command_list.specs.declared.command.Half.{Half}
use Rattle.command_list.specs.declared.command.Half.TheVariants.{Graphics, Compute}
use Rattle.command_list.specs.Commands.{Command, code_of, byte_of, SetRootSignature, SetPipelineState, IASetVertexBuffers, SetRoot32BitConstant, SetRootDescriptorTable, SetRootConstantBufferView, DrawInstanced, Dispatch, ExecuteIndirect}

-- a root slot: not set, a descriptor table or a constant buffer view by its address, or root
-- constants, of which each word may be set
pub data Slot : Type 0 where
  unset : Slot
  table : ℕ → Slot
  view : ℕ → Slot
  words : (ℕ → Option ℕ) → Slot

-- graphics or compute: its root signature (0: none), its root slots, and each slot's writes
pub record Roots : Type 0 where
  pub signature : ℕ
  pub slots : ℕ → Slot
  pub writes : ℕ → ℕ

pub record VertexView : Type 0 where
  pub address : ℕ
  pub size : ℕ
  pub stride : ℕ

pub record Device : Type 0 where
  pub halves : Half → Roots
  pub vertices : ℕ → VertexView
  -- the writes of each vertex slot
  pub vertex_writes : ℕ → ℕ
  pub pipeline : ℕ
  -- the last draw or dispatch
  pub latest : Option Command
  -- the number of commands of each code
  pub counts : ℕ → ℕ

-- f, but for x at i
abbrev pub update : {X : Type 0} → (ℕ → X) → ℕ → X → ℕ → X
update f i x q = cond (q == i) x (f q)

-- one more at i
abbrev pub more : ℕ → (ℕ → ℕ) → ℕ → ℕ
more i f = update f i (f i + 1)

-- the root constants of a slot; a table and a view have none
abbrev pub words_of : Slot → ℕ → Option ℕ
words_of (words f) w = f w
words_of _ w = None

-- a root signature is set: a new one unsets all root slots of the half, the same one none
abbrev pub signed : ℕ → Roots → Roots
signed s r = cond (r.signature == s) r (record r { signature = s; slots = λ i. unset })

-- a root slot is set, which counts as a write
abbrev pub written : ℕ → Slot → Roots → Roots
written i x r = record r { slots = update r.slots i x; writes = more i r.writes }

-- a root constant is set, which counts as a write; the other words stay, if there are any
abbrev pub worded : ℕ → ℕ → ℕ → Roots → Roots
worded i w v r = written i (words (update (words_of (r.slots i)) w (Some v))) r

-- an indirect call whose command signature has root constants leaves its special slot unset;
-- that counts as no write
abbrev pub wiped : Option ℕ → Roots → Roots
wiped None r = r
wiped (Some i) r = record r { slots = update r.slots i unset }

abbrev pub other : Half → Half
other Graphics = Compute
other Compute = Graphics

-- one half is changed, the other stays
abbrev pub changed : Half → (Roots → Roots) → (Half → Roots) → Half → Roots
changed Graphics f hs Graphics = f (hs Graphics)
changed Compute f hs Compute = f (hs Compute)
changed _ f hs g = hs g

abbrev pub on_half : Half → (Roots → Roots) → Device → Device
on_half h f d = record d { halves = changed h f d.halves }

abbrev pub attached : ℕ → VertexView → Device → Device
attached i v d = record d {
  vertices = update d.vertices i v;
  vertex_writes = more i d.vertex_writes;
}

abbrev pub piped : ℕ → Device → Device
piped p d = record d { pipeline = p }

abbrev pub drawn : Command → Device → Device
drawn c d = record d { latest = Some c }

abbrev pub counted : ℕ → Device → Device
counted k d = record d { counts = more k d.counts }

-- what a command does, but for the count of its code
abbrev pub effect : Command → Device → Device
effect (SetRootSignature h s) d = on_half h (signed s) d
effect (SetPipelineState p) d = piped p d
effect (IASetVertexBuffers i a s t) d = attached i (record { address = a; size = s; stride = t }) d
effect (SetRoot32BitConstant h i w v) d = on_half h (worded i w v) d
effect (SetRootDescriptorTable h i a) d = on_half h (written i (table a)) d
effect (SetRootConstantBufferView h i a) d = on_half h (written i (view a)) d
effect (DrawInstanced a b c e) d = drawn (DrawInstanced a b c e) d
effect (Dispatch x y z) d = drawn (Dispatch x y z) d
effect (ExecuteIndirect h s n b o) d =
    drawn (ExecuteIndirect h s n b o) (on_half h (wiped s) d)
effect _ d = d

-- one command is executed
abbrev pub step : Command → Device → Device
step c d = counted (byte_of (code_of c)) (effect c d)

-- a list of commands is executed
abbrev pub play : List Command → Device → Device
play [] d = d
play (c ∷ cs) d = play cs (step c d)

-- the state at the start of a list
abbrev pub start : Device
start = record {
  halves = λ h. record { signature = 0; slots = λ i. unset; writes = λ i. 0 };
  vertices = λ i. record { address = 0; size = 0; stride = 0 };
  vertex_writes = λ i. 0;
  pipeline = 0;
  latest = None;
  counts = λ k. 0;
}
