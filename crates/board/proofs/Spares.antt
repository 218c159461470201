-- No count passes the space that a board was made with.
use Rattle.std.proofs.Common.{IsTrue, ◌≡◌, ℕ, ◌-◌, ◌^◌, ◌<◌, ◌≤◌, true, Some, None, Option, sym, refl, ◌∙◌, subst, arith}
use Rattle.std.proofs.lemmas.Bool.Decides.{nat_tests}
use Rattle.std.proofs.lemmas.Bool.{false≢true}
use Rattle.std.proofs.lemmas.Option.{none-some}
use Rattle.command_list.specs.declared.command.Half.TheVariants.{Graphics, Compute}
use Rattle.command_list.specs.Commands.{Command, BeginEvent, OMSetRenderTargets, ResourceBarrier, code_of, byte_of, size, readable}
use Rattle.list_writer.specs.Writing.{has_list}
use Rattle.device.specs.Devices.{Device, effect, step, start}
use Rattle.device.specs.Meaning.{Taken}
use Rattle.device.proofs.Steps.{ticked, vertex_slot, root_slot, step_counts, step_vertex_writes, step_root_writes}
use Rattle.board.specs.declared.state.State.{State}
use Rattle.board.specs.Boards.{device_of, boarded, Spare, Spares}

pub spares_start : (d : Device) (k : ℕ) → d ≡ start → Spares d k k
spares_start d k e = subst (λ t. Spares t k k) (sym e) (λ q. omega arith, λ q. omega arith, λ q. omega arith, λ q. omega arith)

-- one write uses up one at most
spare_ticked : (o : Option ℕ) (f : ℕ → ℕ) (k j most : ℕ) → Spare f k most → j < k → Spare (ticked o f) j most
spare_ticked None f k j most s l q = omega (arith, s q)
spare_ticked (Some i) f k j most s l q = grind (arith, nat_tests, s q)

-- so does one step
spares_step : (c : Command) (d : Device) (k j most : ℕ) → Spares d k most → j < k → Spares (step c d) j most
spares_step c d k j most s l =
    let P : (ℕ → ℕ) → Type 0 = λ f. Spare f j most in (
      subst P (sym (step_counts c d)) (spare_ticked (Some (byte_of (code_of c))) d.counts k j most s.0 l),
      subst P (sym (step_vertex_writes c d)) (spare_ticked (vertex_slot c) d.vertex_writes k j most s.1 l),
      subst P (sym (step_root_writes Graphics c d)) (spare_ticked (root_slot Graphics c) (d.halves Graphics).writes k j most s.2 l),
      subst P (sym (step_root_writes Compute c d)) (spare_ticked (root_slot Compute c) (d.halves Compute).writes k j most s.3 l),
    )

-- a command has a record, whose size k the space has
pub record Sized (c : Command) (k rest : ℕ) : Type 0 where
  pub readable : readable c ≡ true
  pub size : k ≡ size c
  pub fits : k ≤ rest

pub sized : (c : Command) (n k rest : ℕ) → (readable c ≡ true) × (n ≡ size c) → (k ≡ n) × (n ≤ rest) → Sized c k rest
sized c n k rest a b = record { readable = a.0; size = b.0 ∙ a.1; fits = omega (arith, b.0, b.1) }

-- room for one more
pub room_for_one : (c : Command) (d : Device) (k rest most : ℕ) → Sized c k rest → Spares d rest most → most < 2 ^ 64 → Spares d 1 (2 ^ 64 - 1)
room_for_one c d k rest most z s l =
    let h : 0 < rest = omega (arith, z.size, z.fits) in
    (λ q. omega (arith, s.0 q), λ q. omega (arith, s.1 q), λ q. omega (arith, s.2 q), λ q. omega (arith, s.3 q))

-- what a call of the board owes, from the state that it made
pub spares_made : (c : Command) (d e : Device) (k rest most : ℕ) → Sized c k rest → e ≡ step c d → Spares d rest most → Spares e (rest - k) most
spares_made c d e k rest most z p s = subst (λ t. Spares t (rest - k) most) (sym p) (spares_step c d rest (rest - k) most s (omega (arith, z.size, z.fits)))

pub board_taken : (c : Command) (s t : State) (k rest most : ℕ) → Sized c k rest → device_of t ≡ step c (device_of s) → Taken (boarded s rest most) c (boarded t (rest - k) most)
board_taken c s t k rest most z p = record {
  readable = z.readable;
  fits = omega (arith, z.size, z.fits);
  recorded = record { device = p; least = omega (arith, z.size, z.fits); most = omega arith; made = refl; shown = refl; exact = λ bs e. absurd (none-some bs e) };
}

-- a command with a list changes nothing but its code's count
pub list_effect : (c : Command) (d : Device) → IsTrue (has_list c) → effect c d ≡ d
list_effect (BeginEvent us) d h = refl
list_effect (OMSetRenderTargets hs) d h = refl
list_effect (ResourceBarrier es) d h = refl
list_effect c d h = absurd (false≢true h)
