-- The lowest slot whose element is not of its owner's kind, looked for from slot to slot.
use Rattle.std.proofs.Common.{◌≡◌, ℕ, suc, ◌+◌, ◌-◌, ◌<◌, ◌≤◌, true, false, cond, Some, None, ap, ◌∙◌, arith}
use Rattle.layouts.specs.declared.layout.PipelineLayout.{PipelineLayout}
use Rattle.layouts.specs.Layouts.{owner_in}
use Rattle.passes.specs.declared.element.RootElement.{RootElement}
use Rattle.passes.specs.Account.{fits_owner, unfit}

module _ (l : PipelineLayout) (f : ℕ → RootElement) (k n : ℕ) where
  unfit_by : k < n → unfit l f k (n - k) ≡ cond (fits_owner (owner_in l k) (f k)) (unfit l f (k + 1) (n - (k + 1))) (Some k)
  unfolding unfit
  unfit_by h = let q : n - k ≡ suc (n - (k + 1)) = omega arith in ap (unfit l f k) q

  pub unfit_next : k < n → fits_owner (owner_in l k) (f k) ≡ true → unfit l f k (n - k) ≡ unfit l f (k + 1) (n - (k + 1))
  unfit_next h e = unfit_by h ∙ ap (λ b. cond b (unfit l f (k + 1) (n - (k + 1))) (Some k)) e

  pub unfit_here : k < n → fits_owner (owner_in l k) (f k) ≡ false → unfit l f k (n - k) ≡ Some k
  unfit_here h e = unfit_by h ∙ ap (λ b. cond b (unfit l f (k + 1) (n - (k + 1))) (Some k)) e

  pub unfit_end : n ≤ k → unfit l f k (n - k) ≡ None
  unfolding unfit
  unfit_end h = let q : n - k ≡ 0 = omega arith in ap (unfit l f k) q
