-- What a command leaves alone, and which slot it writes.
use Rattle.std.proofs.Common.{◌≡◌, ℕ, true, false, cond, eqb, Some, None, Option, refl, ap}
use Rattle.std.proofs.lemmas.Bool.{cond_both, cond-true, eq-eqb, eqb-true}
use Rattle.command_list.specs.declared.command.Half.{Half}
use Rattle.command_list.specs.declared.command.Half.TheVariants.{Graphics, Compute}
use Rattle.command_list.specs.Commands.{Command, code_of, byte_of, EndEvent, SetRootSignature, IASetVertexBuffers, SetRoot32BitConstant, SetRootDescriptorTable, SetRootConstantBufferView, ExecuteIndirect}
use Rattle.device.specs.Devices.{Device, Roots, unset, table, view, more, signed, written, worded, wiped, changed, effect, step}

-- one more at a slot, if there is one
abbrev pub ticked : Option ℕ → (ℕ → ℕ) → ℕ → ℕ
ticked None f = f
ticked (Some i) f = more i f

-- a slot of one half, seen from a half
abbrev pub if_half : Half → Half → ℕ → Option ℕ
if_half Graphics Graphics i = Some i
if_half Compute Compute i = Some i
if_half _ _ i = None

-- the vertex slot that a command writes
abbrev pub vertex_slot : Command → Option ℕ
vertex_slot (IASetVertexBuffers i a s t) = Some i
vertex_slot _ = None

-- the root slot of a half that a command writes
abbrev pub root_slot : Half → Command → Option ℕ
root_slot k (SetRoot32BitConstant h i w v) = if_half h k i
root_slot k (SetRootDescriptorTable h i a) = if_half h k i
root_slot k (SetRootConstantBufferView h i a) = if_half h k i
root_slot k _ = None

-- only the code's count is counted
pub effect_counts : (c : Command) (d : Device) → (effect c d).counts ≡ d.counts
effect_counts EndEvent d = refl
effect_counts _ d = refl

pub step_counts : (c : Command) (d : Device) → (step c d).counts ≡ more (byte_of (code_of c)) d.counts
step_counts c d = ap (more (byte_of (code_of c))) (effect_counts c d)

pub step_vertex_writes : (c : Command) (d : Device) → (step c d).vertex_writes ≡ ticked (vertex_slot c) d.vertex_writes
step_vertex_writes (IASetVertexBuffers i a s t) d = refl
step_vertex_writes _ d = refl

-- setting a signature writes no slot, and keeps the slots of a half that has it already
pub signed_writes : (s : ℕ) (r : Roots) → (signed s r).writes ≡ r.writes
signed_writes s r = elim (eqb r.signature s) as (λ b. (cond b r (record r { signature = s; slots = λ i. unset })).writes ≡ r.writes) [ true ↦ refl | false ↦ refl ]

pub signed_signature : (s : ℕ) (r : Roots) → (signed s r).signature ≡ s
signed_signature s r =
    cond_both (eqb r.signature s) r (record r { signature = s; slots = λ i. unset }) (λ (x : Roots). x.signature ≡ s) (λ e. eqb-true r.signature s e) (λ _. refl)

pub signed_kept : (s : ℕ) (r : Roots) → r.signature ≡ s → (signed s r).slots ≡ r.slots
signed_kept s r e =
    ap (λ (x : Roots). x.slots) (cond-true (eqb r.signature s) r (record r { signature = s; slots = λ i. unset }) (eq-eqb r.signature s e))

wiped_writes : (s : Option ℕ) (r : Roots) → (wiped s r).writes ≡ r.writes
wiped_writes None r = refl
wiped_writes (Some i) r = refl

pub wiped_signature : (w : Option ℕ) (r : Roots) → (wiped w r).signature ≡ r.signature
wiped_signature None r = refl
wiped_signature (Some i) r = refl

-- a half changed by what keeps its counts of writes, and by what writes one slot, seen from a half
kept_half : (k h : Half) (f : Roots → Roots) (hs : Half → Roots) → ((r : Roots) → (f r).writes ≡ r.writes) → (changed h f hs k).writes ≡ (hs k).writes
kept_half Graphics Graphics f hs e = e (hs Graphics)
kept_half Compute Compute f hs e = e (hs Compute)
kept_half Graphics Compute f hs e = refl
kept_half Compute Graphics f hs e = refl

ticked_half : (k h : Half) (f : Roots → Roots) (i : ℕ) (hs : Half → Roots) → ((r : Roots) → (f r).writes ≡ more i r.writes)
    → (changed h f hs k).writes ≡ ticked (if_half h k i) (hs k).writes
ticked_half Graphics Graphics f i hs e = e (hs Graphics)
ticked_half Compute Compute f i hs e = e (hs Compute)
ticked_half Graphics Compute f i hs e = refl
ticked_half Compute Graphics f i hs e = refl

pub step_root_writes : (k : Half) (c : Command) (d : Device) → ((step c d).halves k).writes ≡ ticked (root_slot k c) (d.halves k).writes
step_root_writes k (SetRootSignature h s) d = kept_half k h (signed s) d.halves (signed_writes s)
step_root_writes k (SetRoot32BitConstant h i w v) d = ticked_half k h (worded i w v) i d.halves (λ r. refl)
step_root_writes k (SetRootDescriptorTable h i a) d = ticked_half k h (written i (table a)) i d.halves (λ r. refl)
step_root_writes k (SetRootConstantBufferView h i a) d = ticked_half k h (written i (view a)) i d.halves (λ r. refl)
step_root_writes k (ExecuteIndirect h s n b o) d = kept_half k h (wiped s) d.halves (wiped_writes s)
step_root_writes k _ d = refl
