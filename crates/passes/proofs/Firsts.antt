-- The first address that is too far and the first slot that is unfit, by the law of first failures.
use Rattle.std.proofs.Common.{◌≡◌, ℕ, ◌^◌, ◌<◌, Bool, true, false, List, get_or, Some, None, Option, refl, sym, ap, ◌∙◌, arith}
use Rattle.std.specs.List.{range_with_len}
use Rattle.std.proofs.lemmas.Bool.{ltb-true, ltb-false, true≢false}
use Rattle.std.proofs.lemmas.List.FromFn.{length-range_with_len, get_or-range_with_len}
use Rattle.layouts.specs.declared.info.Owner.{Owner}
use Rattle.layouts.specs.declared.layout.PipelineLayout.{PipelineLayout}
use Rattle.layouts.specs.Layouts.{owner_in}
use Rattle.command_list.specs.Refusals.{first_from, FirstOf}
use Rattle.command_list.proofs.Refusing.{first_law}
use Rattle.passes.specs.declared.element.RootElement.{RootElement}
use Rattle.passes.specs.Account.{is_of, fits_owner, unfit}
use Rattle.passes.specs.Calls.{is_near, too_far}
use Rattle.passes.specs.Firsts.{FarAt, IsFit, UnfitAt, RefusalsAreFirst}

far_by : (xs : List ℕ) (o : Option ℕ) → FirstOf is_near xs o → FarAt xs o
far_by xs None a = λ k h. ltb-true (get_or xs k 0) (2 ^ 64) (a k 0 h)
far_by xs (Some i) f = record {
  within = f.within;
  far = ltb-false (get_or xs i 0) (2 ^ 64) (f.fails 0);
  near_before = λ k h. ltb-true (get_or xs k 0) (2 ^ 64) (f.earlier k 0 h);
}

module _ (l : PipelineLayout) (f : ℕ → RootElement) where
  abbrev pub fits : ℕ → Bool
  fits k = fits_owner (owner_in l k) (f k)

  fit_by : (k : ℕ) → fits k ≡ true → IsFit l f k
  fit_by k e o is = sym (ap (λ x. fits_owner x (f k)) is) ∙ e

  unfit_by : (k : ℕ) → fits k ≡ false → (o : Owner) × (owner_in l k ≡ Some o) × (is_of o (f k) ≡ false)
  unfit_by k e = by (owner_in l k) refl
    where
      by : (x : Option Owner) → owner_in l k ≡ x → (o : Owner) × (owner_in l k ≡ Some o) × (is_of o (f k) ≡ false)
      by None is = absurd (true≢false (sym (ap (λ x. fits_owner x (f k)) is) ∙ e))
      by (Some o) is = (o, is, sym (ap (λ x. fits_owner x (f k)) is) ∙ e)

  at : (n k : ℕ) → k < n → get_or (range_with_len 0 n) k 0 ≡ k
  at n k h = get_or-range_with_len 0 n k 0 h ∙ omega arith

  slots_by : (n : ℕ) (o : Option ℕ) → FirstOf fits (range_with_len 0 n) o → UnfitAt l f n o
  slots_by n None a = λ k h.
      fit_by k (ap fits (sym (at n k h)) ∙ a k 0 (omega (arith, length-range_with_len 0 n)))
  slots_by n (Some k) g =
      let h : k < n = omega (arith, length-range_with_len 0 n, g.within) in
      let u = unfit_by k (ap fits (sym (at n k h)) ∙ g.fails 0) in
      record {
        within = h;
        owner = u.0;
        owned = u.1;
        unlike = u.2;
        fit_below = λ j q. fit_by j (ap fits (sym (at n j (omega arith))) ∙ g.earlier j 0 q);
      }

  pub slots_first : (n : ℕ) → UnfitAt l f n (unfit l f 0 n)
  unfolding unfit
  slots_first n = slots_by n (first_from 0 fits (range_with_len 0 n)) (first_law fits (range_with_len 0 n))

pub refusals_first : RefusalsAreFirst
refusals_first = record {
  addresses = λ xs. far_by xs (too_far 0 xs) (first_law is_near xs);
  slots = slots_first;
}
