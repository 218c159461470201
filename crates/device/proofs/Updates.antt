-- A table with one slot changed, and a device with one half changed.
use Rattle.std.proofs.Common.{◌≡◌, ℕ, ◌+◌, ◌≤◌, cond, refl, ap, ⊎_elim, arith}
use Rattle.std.proofs.lemmas.Bool.{eq-eqb, ne_eqb, cases_eq}
use Rattle.command_list.specs.declared.command.Half.{Half}
use Rattle.command_list.specs.declared.command.Half.TheVariants.{Graphics, Compute}
use Rattle.device.specs.Devices.{Roots, update, more, other, changed}

pub update_here : {X : Type 0} (f : ℕ → X) (i : ℕ) (x : X) (k : ℕ) → k ≡ i → update f i x k ≡ x
update_here f i x k e = ap (λ b. cond b x (f k)) (eq-eqb k i e)

pub update_other : {X : Type 0} (f : ℕ → X) (i : ℕ) (x : X) (k : ℕ) → (k ≡ i → ⊥) → update f i x k ≡ f k
update_other f i x k n = ap (λ b. cond b x (f k)) (ne_eqb k i n)

pub more_least : (f : ℕ → ℕ) (i k : ℕ) → f k ≤ more i f k
more_least f i k = ⊎_elim
    (λ w. omega (arith, update_here f i (f i + 1) k w, ap f w))
    (λ w. omega (arith, update_other f i (f i + 1) k w))
    (cases_eq k i)

pub changed_here : (h : Half) (f : Roots → Roots) (hs : Half → Roots) → changed h f hs h ≡ f (hs h)
changed_here Graphics f hs = refl
changed_here Compute f hs = refl

pub changed_other : (h : Half) (f : Roots → Roots) (hs : Half → Roots) → changed h f hs (other h) ≡ hs (other h)
changed_other Graphics f hs = refl
changed_other Compute f hs = refl

pub both_halves : (h : Half) (P : Half → Type 0) → P h → P (other h) → (g : Half) → P g
both_halves Graphics P a b Graphics = a
both_halves Graphics P a b Compute = b
both_halves Compute P a b Graphics = b
both_halves Compute P a b Compute = a
