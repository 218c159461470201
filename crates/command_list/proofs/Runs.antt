-- Numbers of equal widths, one behind the other.
use Rattle.std.proofs.Common.{◌≡◌, ℕ, zero, suc, ◌+◌, ◌-◌, ◌*◌, ◌/◌, ◌%◌, ◌<◌, ◌≤◌, cond, eqb, leb, List, [], ◌∷◌, ◌++◌, length, get_or, take, drop, is_some, Some, None, Option, unwrap_or, sym, refl, ap, ◌∙◌, ap₂, add-zero, add_assoc, suc-mul, zero-add, zero-mul, arith, length-drop}
use native.Mathlib.Nat.{mul-div_right, mul-mod_right}
use Rattle.std.specs.Int.Digits.{number_from_digits}
use Rattle.std.proofs.lemmas.List.{drop-drop, drop-take, take-take, length-take-le}
use Rattle.std.proofs.lemmas.Bool.{cond-true, eq-eqb, lt-ltb, and_from}
use Rattle.command_list.specs.declared.command.Barrier.{Barrier}
use Rattle.command_list.specs.declared.code.Code.TheVariants as code
use Rattle.command_list.specs.Numbers.{number_at, numbers}
use Rattle.command_list.specs.Commands.{entry_widths, entry_width, sum, BeginEvent, OMSetRenderTargets, ResourceBarrier, ends_with_zero}
use Rattle.command_list.specs.Decoding.{repeated, barriers, then, takes, wrong, checked, decode}
use Rattle.command_list.specs.RowLaws.{length_every, count_barriers}
use Rattle.command_list.specs.Seen.{every, entry_numbers, entries_of}

-- from a place on is as from the start of what follows the place
pub numbers_shift : (ws : List ℕ) (k at : ℕ) (bs : List ℕ) → numbers ws (k + at) bs ≡ numbers ws at (drop k bs)
unfolding number_at
numbers_shift [] k at bs = refl
numbers_shift (w ∷ ws) k at bs =
    ap₂ (λ x l. x ∷ l) (ap (λ l. number_at w 0 l) (sym (drop-drop at k bs)))
    (ap (λ n. numbers ws n bs) (add_assoc k at w) ∙ numbers_shift ws k (at + w) bs)

-- the last of some units
ends_at : (n at : ℕ) (bs : List ℕ) → ends_with_zero (numbers (repeated (suc n) (2 ∷ [])) at bs) ≡ eqb (number_at 2 (at + 2 * n) bs) 0
ends_at zero at bs = ap (λ k. eqb (number_at 2 k bs) 0) (sym (add-zero at))
ends_at (suc n) at bs = ends_at n (at + 2) bs ∙ ap (λ k. eqb (number_at 2 k bs) 0) (omega arith)

pub units_end : (bs : List ℕ) → 0 < length bs → length bs % 2 ≡ 0 → ends_with_zero (every 2 bs) ≡ eqb (number_at 2 (length bs - 2) bs) 0
units_end bs h e =
    let n : ℕ = length bs / 2 - 1 in
    let s : length bs / 2 ≡ suc n = omega arith in
    ap (λ k. ends_with_zero (numbers (repeated k (2 ∷ [])) 0 bs)) s ∙ ends_at n 0 bs ∙ ap (λ k. eqb (number_at 2 k bs) 0) (omega arith)

pub decode_event : (bs : List ℕ) → 0 < length bs → length bs % 2 ≡ 0 → decode code.BeginEvent bs ≡ cond (eqb (number_at 2 (length bs - 2) bs) 0) (takes (BeginEvent (every 2 bs))) (wrong 25)
decode_event bs h e =
    cond-true _ _ _ (and_from _ _ (lt-ltb 0 (length bs) h) (eq-eqb (length bs % 2) 0 e))
    ∙ ap (λ t. cond t (takes (BeginEvent (every 2 bs))) (wrong 25)) (units_end bs h e)

-- the handles behind their count
handles_behind : (n : ℕ) (bs : List ℕ) → length bs ≡ 1 + 8 * n → numbers (repeated (length bs / 8) (8 ∷ [])) 1 bs ≡ every 8 (drop 1 bs)
handles_behind n bs e =
    let same : length bs / 8 ≡ length (drop 1 bs) / 8 = simp length-drop (omega arith) in
    numbers_shift (repeated (length bs / 8) (8 ∷ [])) 1 0 bs ∙ ap (λ k. numbers (repeated k (8 ∷ [])) 0 (drop 1 bs)) same

pub decode_targets : (n : ℕ) (bs : List ℕ) → n ≡ get_or bs 0 0 → length bs ≡ 1 + 8 * n → decode code.OMSetRenderTargets bs ≡ cond (leb n 8) (takes (OMSetRenderTargets (every 8 (drop 1 bs)))) (wrong 25)
decode_targets n bs f e =
    let hs : List ℕ = numbers (repeated (length bs / 8) (8 ∷ [])) 1 bs in
    let many : length (every 8 (drop 1 bs)) ≡ n = length_every 8 (drop 1 bs) ∙ simp length-drop (omega arith) in
    cond-true _ _ _ (eq-eqb (length bs) (1 + 8 * get_or bs 0 0) (omega arith))
    ∙ ap (λ l. cond (leb (length l) 8) (takes (OMSetRenderTargets l)) (wrong 25)) (handles_behind n bs e)
    ∙ ap (λ k. cond (leb k 8) (takes (OMSetRenderTargets (every 8 (drop 1 bs)))) (wrong 25)) many

taken_barriers : (o : Option (List Barrier)) → ((es : List Barrier) → o ≡ Some es → 0 < length es)
    → checked (then o (λ es. Some (ResourceBarrier es))) ≡ cond (is_some o) (takes (ResourceBarrier (unwrap_or o []))) (wrong 25)
taken_barriers None h = refl
taken_barriers (Some es) h = cond-true _ _ _ (lt-ltb 0 (length es) (h es refl))

pub decode_barriers : (bs : List ℕ) → 0 < length bs → length bs % entry_width ≡ 0 → decode code.ResourceBarrier bs ≡ cond (is_some (barriers (entry_numbers bs))) (takes (ResourceBarrier (entries_of bs))) (wrong 25)
decode_barriers bs h e =
    cond-true _ _ _ (and_from _ _ (lt-ltb 0 (length bs) h) (eq-eqb (length bs % entry_width) 0 e))
    ∙ taken_barriers (barriers (entry_numbers bs)) (λ es s. let n = count_barriers (length bs / entry_width) 0 bs es s in omega arith)

pub sum_repeated : (n : ℕ) (ws : List ℕ) → sum (repeated n ws) ≡ n * sum ws
sum_repeated zero ws = sym (zero-mul (sum ws))
sum_repeated (suc n) ws = sum_append ws (repeated n ws) ∙ ap (λ k. sum ws + k) (sum_repeated n ws) ∙ let m = suc-mul n (sum ws) in omega arith
  where
    sum_append : (xs ys : List ℕ) → sum (xs ++ ys) ≡ sum xs + sum ys
    sum_append [] ys = sym (zero-add (sum ys))
    sum_append (x ∷ xs) ys = ap (λ n. x + n) (sum_append xs ys) ∙ sym (add_assoc x (sum xs) (sum ys))

-- what stands before a list is cut as a slice is
pub cut : (n : ℕ) (p : List ℕ) → take (n - 0) (drop 0 p) ≡ take n p
cut n p = ap (λ k. take k p) (omega arith)

-- numbers within a part are those of the whole
numbers_take : (ws : List ℕ) (at m : ℕ) (p : List ℕ) → at + sum ws ≤ m → numbers ws at (take m p) ≡ numbers ws at p
unfolding number_at
numbers_take [] at m p h = refl
numbers_take (w ∷ ws) at m p h =
    let far : m ≡ at + (m - at) = omega arith in
    let d : drop at (take m p) ≡ take (m - at) (drop at p) = ap (λ k. drop at (take k p)) far ∙ drop-take at (m - at) p in
    ap₂ (λ x l. x ∷ l) (ap (λ l. number_from_digits 256 (take w l)) d ∙ ap (number_from_digits 256) (take-take w (m - at) (drop at p) (omega arith))) (numbers_take ws (at + w) m p (omega arith))

pub whole_entries : (n : ℕ) (p : List ℕ) → n ≡ length p / entry_width → entry_numbers (take (entry_width * n - 0) (drop 0 p)) ≡ entry_numbers p
whole_entries n p e =
    let q : take (entry_width * n - 0) (drop 0 p) ≡ take (entry_width * n) p = cut (entry_width * n) p in
    let l : length (take (entry_width * n) p) ≡ entry_width * n = length-take-le (entry_width * n) p (omega arith) in
    let same : length (take (entry_width * n) p) / entry_width ≡ length p / entry_width = ap (λ k. k / entry_width) l ∙ mul-div_right n {m = entry_width} (omega arith) ∙ e in
    ap entry_numbers q
    ∙ ap (λ k. numbers (repeated k entry_widths) 0 (take (entry_width * n) p)) same
    ∙ numbers_take (repeated (length p / entry_width) entry_widths) 0 (entry_width * n) p (let s = sum_repeated (length p / entry_width) entry_widths in omega arith)

pub whole_length : (n : ℕ) (p : List ℕ) → n ≡ length p / entry_width → length (take (entry_width * n - 0) (drop 0 p)) % entry_width ≡ 0
whole_length n p e = ap (λ k. k % entry_width) (ap length (cut (entry_width * n) p) ∙ length-take-le (entry_width * n) p (omega arith)) ∙ mul-mod_right entry_width n
