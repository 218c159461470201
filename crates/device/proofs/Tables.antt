-- The commands of the touched slots of a table, played in their order.
use Rattle.std.proofs.Common.{◌≡◌, ℕ, zero, suc, ◌+◌, ◌<◌, ◌≤◌, Bool, true, cond, List, [], sym, ap, ◌∙◌, subst, ⊎_elim, arith}
use Rattle.std.proofs.lemmas.Bool.{cases_eq, cond_both, cond-true}
use Rattle.command_list.specs.Commands.{Command}
use Rattle.device.specs.Devices.{Device, play}
use Rattle.device.specs.Writes.{gathered}
use Rattle.device.proofs.Runs.{play_append}

-- K is what the commands of other slots keep; it goes over from one to the next
module _ (t : ℕ → Bool) (f : ℕ → List Command) (K : Device → Device → Type 0)
    (none : (d : Device) → K d d) (more : (a b c : Device) → K a b → K b c → K a c) where
  pub gathered_keeps : (n k : ℕ) → ((j : ℕ) → k ≤ j → t j ≡ true → (d : Device) → K d (play (f j) d)) → (d : Device) → K d (play (gathered t f k n) d)
  unfolding gathered
  gathered_keeps zero k each d = none d
  gathered_keeps (suc n) k each d =
      let mid = play (cond (t k) (f k) []) d in
      let a : K d mid = cond_both (t k) (f k) [] (λ cs. K d (play cs d)) (λ e. each k (omega arith) e d) (λ e. none d) in
      let b = gathered_keeps n (k + 1) (λ j l e x. each j (omega arith) e x) mid in
      subst (λ x. K d x) (sym (play_append (cond (t k) (f k) []) (gathered t f (k + 1) n) d)) (more d mid _ a b)

  -- U is what the commands of the slot q do
  module _ (U : Device → Device → Type 0) (around : (a b c e : Device) → K a b → U b c → K c e → U a e) (q : ℕ) (on : t q ≡ true)
      (others : (j : ℕ) → (q ≡ j → ⊥) → (d : Device) → K d (play (f j) d)) (its : (d : Device) → U d (play (f q) d)) where
    pub gathered_does : (n k : ℕ) → k ≤ q → q < k + n → (d : Device) → U d (play (gathered t f k n) d)
    unfolding gathered
    gathered_does zero k l h d = absurd (omega arith)
    gathered_does (suc n) k l h d =
        let mid = play (cond (t k) (f k) []) d in
        let here : q ≡ k → U d (play (gathered t f (k + 1) n) mid) = λ e.
        let u : U d (play (f k) d) = subst (λ j. U d (play (f j) d)) e (its d) in
        let v : U d mid = subst (λ cs. U d (play cs d)) (sym (cond-true (t k) (f k) [] (sym (ap t e) ∙ on))) u in
        around d d mid _ (none d) v (gathered_keeps n (k + 1) (λ j g _ x. others j (λ w. omega arith) x) mid) in
        let there : (q ≡ k → ⊥) → U d (play (gathered t f (k + 1) n) mid) = λ e.
        let a : K d mid = cond_both (t k) (f k) [] (λ cs. K d (play cs d)) (λ _. others k e d) (λ _. none d) in
        around d mid _ _ a (gathered_does n (k + 1) (omega arith) (omega arith) mid) (none _) in
        subst (λ x. U d x) (sym (play_append (cond (t k) (f k) []) (gathered t f (k + 1) n) d)) (⊎_elim here there (cases_eq q k))
