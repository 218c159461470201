-- Two devices between which no slot was written.
use Rattle.std.proofs.Common.{◌≡◌, ℕ, ap, ◌∙◌}
use Rattle.command_list.specs.declared.command.Half.{Half}
use Rattle.device.specs.Devices.{Device, Roots}
use Rattle.device.proofs.Quiets.{Still}

pub record Unwritten (e d : Device) : Type 0 where
  pub roots : (h : Half) (k : ℕ) → (d.halves h).writes k ≡ (e.halves h).writes k
  pub vertices : (i : ℕ) → d.vertex_writes i ≡ e.vertex_writes i

pub still_unwritten : (d e : Device) → Still d e → Unwritten d e
still_unwritten d e s = record { roots = λ h k. ap (λ (f : Half → Roots). (f h).writes k) s.halves; vertices = λ i. ap (λ f. f i) s.vertex_writes }

pub unwritten_then : (a b c : Device) → Unwritten a b → Unwritten b c → Unwritten a c
unwritten_then a b c p q = record { roots = λ h k. q.roots h k ∙ p.roots h k; vertices = λ i. q.vertices i ∙ p.vertices i }
