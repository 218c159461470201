-- Arrays and masks as functions of a slot.
use Rattle.std.proofs.Common.{◌≡◌, ℕ, zero, suc, ◌∷◌, take, drop, refl, ◌*◌, ◌%◌, ◌^◌, ◌<◌, true, false, ◌+◌, ◌≤◌, List, length, get_or, bit_or, cond, sym, ap, ◌∙◌, ⊎_elim, arith}
use Rattle.std.proofs.lemmas.Bool.{cases_eq, eq-eqb, ne_eqb}
use borrow.Rule.Slice.PartMut.{put_mid}
use Rattle.std.proofs.lemmas.Nat.{one_shl}
use Rattle.std.proofs.lemmas.List.{drop_more}
use Rattle.std.proofs.lemmas.Grind.{common_steps}
use Rattle.command_list.specs.Bits.{bit}
use Rattle.layouts.proofs.Masks.{in_at, bit_none}
use Rattle.device.specs.Devices.{update}
use Rattle.passes.specs.Account.{overwritten}
use Rattle.passes.specs.Flush.{firsts}

-- a mask of w slots with one slot more
pub mask_with : (w m i : ℕ) → i < w → bit (bit_or m (1 * 2 ^ i % 2 ^ w)) ≡ update (bit m) i true
mask_with w m i h = let p : (k : ℕ) → bit (bit_or m (1 * 2 ^ i % 2 ^ w)) k ≡ update (bit m) i true k = λ k. rw (one_shl i w h) (in_at m i k) in λ j k. p k j

pub mask_none : bit 0 ≡ (λ k. false)
mask_none = λ j k. bit_none k j

-- a slice in the midst of an array
pub overwritten_lem : (at k : ℕ) (xs ws : List ℕ) (w : ℕ) → k ≡ length ws → at + length ws ≤ length xs
    → get_or (put_mid at k xs ws) w 0 ≡ overwritten at ws (λ w. get_or xs w 0) w
overwritten_lem at k xs ws w e h = grind (arith, common_steps)

-- what stood at a slot is put back
pub update_self : {X : Type 0} (f : ℕ → X) (i : ℕ) → update f i (f i) ≡ f
update_self f i = λ j k. ⊎_elim (λ e. ap (λ b. cond b (f i) (f k)) (eq-eqb k i e) ∙ ap f (sym e)) (λ e. ap (λ b. cond b (f i) (f k)) (ne_eqb k i e)) (cases_eq k i) j

pub update_back : {X : Type 0} (f : ℕ → X) (i : ℕ) (x : X) → update (update f i x) i (f i) ≡ f
update_back f i x = (λ j k. ⊎_elim (λ e. ap (λ b. cond b (f i) (cond b x (f k))) (eq-eqb k i e) ∙ sym (ap (λ b. cond b (f i) (f k)) (eq-eqb k i e)))
    (λ e. ap (λ b. cond b (f i) (cond b x (f k))) (ne_eqb k i e) ∙ sym (ap (λ b. cond b (f i) (f k)) (ne_eqb k i e))) (cases_eq k i) j) ∙ update_self f i

-- the first words of an array
pub firsts_taken : (n w : ℕ) (xs : List ℕ) → w + n ≤ length xs → take n (drop w xs) ≡ firsts (λ k. get_or xs k 0) w n
firsts_taken zero w xs h = refl
firsts_taken (suc n) w xs h = ap (take (suc n)) (drop_more xs w 0 (omega arith)) ∙ ap (λ ys. get_or xs w 0 ∷ ys) (firsts_taken n (w + 1) xs (omega arith))
