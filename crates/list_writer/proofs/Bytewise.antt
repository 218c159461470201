-- Bytes to numbers and back.
use Rattle.std.proofs.Common.{◌≡◌, ℕ, zero, suc, ◌+◌, ◌*◌, ◌/◌, ◌%◌, ◌^◌, ◌<◌, ◌≤◌, List, [], ◌∷◌, ◌++◌, length, get_or, take, drop, sym, refl, ap, ◌∙◌, subst, ap₂, ⊎_elim, mul-le-mul_right, mod-eq_of_lt, mul_assoc, add-mul, zero-mul, arith, take-add}
use native.Mathlib.Nat.{mod-one, pow-succ', mul-add-div_right, div-eq_of_lt}
use lib.Arith.{mod-mul}
use Rattle.std.specs.Int.Digits.{number_from_digits, number_from_digits_after}
use Rattle.std.proofs.lemmas.Bool.{cases_lt}
use Rattle.std.proofs.lemmas.List.{drop_at, take_at, drop-drop, length-take-le, get_or-drop, get_or-take, get_or_past, length-drop, length-take}
use Rattle.command_list.specs.Numbers.{be, Field, bytes, total, Fit, widths, values, number_at, numbers}
use Rattle.list_writer.proofs.Rows.{length_be}
use Rattle.command_list.proofs.Runs.{numbers_shift}

some_power : (w : ℕ) → 0 < 256 ^ w
some_power zero = omega arith
some_power (suc w) = let h = some_power w in rw (pow-succ' 256 w) (omega arith)

-- what is written is read again
number_be : (w v n : ℕ) → number_from_digits_after 256 n (be w v) ≡ n * 256 ^ w + v % 256 ^ w
number_be zero v n = omega (arith, mod-one v)
number_be (suc w) v n =
    let c = 256 ^ w in
    let q = v / c % 256 in
    let ih : number_from_digits_after 256 (n * 256 + q) (be w v) ≡ (n * 256 + q) * c + v % c = number_be w v (n * 256 + q) in
    let m : v % (256 * c) ≡ q * c + v % c = mod-mul v (omega arith) (some_power w) in
    let a : (n * 256 + q) * c ≡ n * 256 * c + q * c = add-mul (n * 256) q c in
    let b : n * 256 * c ≡ n * (256 * c) = mul_assoc n 256 c in
    rw (pow-succ' 256 w) (ih ∙ omega arith)

pub number_fit : (w v : ℕ) → v < 256 ^ w → number_from_digits 256 (be w v) ≡ v
number_fit w v h = number_be w v 0 ∙ let e : 0 * 256 ^ w ≡ 0 = zero-mul (256 ^ w) in let m : v % 256 ^ w ≡ v = mod-eq_of_lt h in omega arith

pub numbers_bytes : (fs : List Field) → Fit fs → numbers (widths fs) 0 (bytes fs) ≡ values fs
unfolding number_at
numbers_bytes [] h = refl
numbers_bytes (f ∷ fs) h =
    let w = f.width in
    let b = be w f.value in
    let l = length_be w f.value in
    let here : number_at w 0 (b ++ bytes fs) ≡ f.value = ap (number_from_digits 256) (take_at b (bytes fs) w l) ∙ number_fit w f.value h.0 in
    let rest : numbers (widths fs) (0 + w) (b ++ bytes fs) ≡ values fs =
    ap (λ n. numbers (widths fs) n (b ++ bytes fs)) (omega arith)
    ∙ numbers_shift (widths fs) w 0 (b ++ bytes fs)
    ∙ ap (numbers (widths fs) 0) (drop_at b (bytes fs) w l)
    ∙ numbers_bytes fs h.1 in
    ap₂ (λ x xs. x ∷ xs) here rest

-- what is read is written again
abbrev pub Bytes : List ℕ → Type 0
Bytes bs = (i : ℕ) → get_or bs i 0 < 256

pub bytes_drop : (k : ℕ) (bs : List ℕ) → Bytes bs → Bytes (drop k bs)
bytes_drop k bs h i = subst (λ n. n < 256) (sym (get_or-drop k bs i 0)) (h (k + i))

-- the bytes of a number do not see what is above them
be_above : (w q r : ℕ) → be w (q * 256 ^ w + r) ≡ be w r
be_above zero q r = refl
be_above (suc w) q r =
    let c = 256 ^ w in
    let p : q * 256 ^ suc w + r ≡ (q * 256) * c + r = ap (λ n. q * n + r) (pow-succ' 256 w) ∙ ap (λ n. n + r) (sym (mul_assoc q 256 c)) in
    let d : ((q * 256) * c + r) / c ≡ q * 256 + r / c = mul-add-div_right (some_power w) (q * 256) r in
    let m : (q * 256 + r / c) % 256 ≡ r / c % 256 = omega arith in
    ap (be (suc w)) p ∙ ap₂ (λ x xs. x ∷ xs) (ap (λ n. n % 256) d ∙ m) (be_above w (q * 256) r)

after_split : (n : ℕ) (ds : List ℕ) → number_from_digits_after 256 n ds ≡ n * 256 ^ length ds + number_from_digits_after 256 0 ds
after_split n [] = omega arith
after_split n (d ∷ ds) =
    let c = 256 ^ length ds in
    let a : number_from_digits_after 256 (n * 256 + d) ds ≡ (n * 256 + d) * c + number_from_digits_after 256 0 ds = after_split (n * 256 + d) ds in
    let b : number_from_digits_after 256 (0 * 256 + d) ds ≡ (0 * 256 + d) * c + number_from_digits_after 256 0 ds = after_split (0 * 256 + d) ds in
    let e : (n * 256 + d) * c ≡ n * 256 * c + d * c = add-mul (n * 256) d c in
    let f : n * 256 * c ≡ n * (256 * c) = mul_assoc n 256 c in
    let g : (0 * 256 + d) * c ≡ d * c = ap (λ k. k * c) (omega arith) in
    rw (pow-succ' 256 (length ds)) (a ∙ omega arith)

first_of : (d : ℕ) (ds : List ℕ) → number_from_digits 256 (d ∷ ds) ≡ d * 256 ^ length ds + number_from_digits 256 ds
first_of d ds = after_split (0 * 256 + d) ds ∙ ap (λ k. k * 256 ^ length ds + number_from_digits 256 ds) (omega arith)

bytes_rest : (d : ℕ) (ds : List ℕ) → Bytes (d ∷ ds) → Bytes ds
bytes_rest d ds h i = h (suc i)

bytes_first : (d : ℕ) (ds : List ℕ) → Bytes (d ∷ ds) → d < 256
bytes_first d ds h = h 0

pub number_small : (ds : List ℕ) → Bytes ds → number_from_digits 256 ds < 256 ^ length ds
number_small [] h = omega arith
number_small (d ∷ ds) h =
    let c = 256 ^ length ds in
    let ih = number_small ds (bytes_rest d ds h) in
    let small : d ≤ 255 = let f = bytes_first d ds h in omega arith in
    let m : d * c ≤ 255 * c = mul-le-mul_right c small in
    rw (pow-succ' 256 (length ds)) (omega (arith, first_of d ds))

pub be_number : (ds : List ℕ) → Bytes ds → be (length ds) (number_from_digits 256 ds) ≡ ds
be_number [] h = refl
be_number (d ∷ ds) h =
    let c = 256 ^ length ds in
    let n = number_from_digits 256 ds in
    let small : n / c ≡ 0 = div-eq_of_lt (number_small ds (bytes_rest d ds h)) in
    let q : (d * c + n) / c ≡ d = mul-add-div_right (some_power (length ds)) d n ∙ omega (arith, small) in
    let one : (d * c + n) / c % 256 ≡ d = ap (λ k. k % 256) q ∙ mod-eq_of_lt (bytes_first d ds h) in
    ap (be (suc (length ds))) (first_of d ds) ∙ ap₂ (λ x xs. x ∷ xs) one (be_above (length ds) d n ∙ be_number ds (bytes_rest d ds h))

pub bytes_take : (n : ℕ) (bs : List ℕ) → Bytes bs → Bytes (take n bs)
bytes_take n bs h i =
    ⊎_elim {A = i < n} {B = n ≤ i} (λ l. subst (λ x. x < 256) (sym (get_or-take n bs i 0 l)) (h i))
    (λ l. subst (λ x. x < 256) (sym (get_or_past (take n bs) i 0 (simp length-take (omega arith)))) (omega arith)) (cases_lt i n)

be_at : (w at : ℕ) (bs : List ℕ) → Bytes bs → at + w ≤ length bs → be w (number_at w at bs) ≡ take w (drop at bs)
unfolding number_at
be_at w at bs h l =
    let ds = take w (drop at bs) in
    let long : length ds ≡ w = length-take-le w (drop at bs) (simp length-drop (omega arith)) in
    ap (λ k. be k (number_from_digits 256 ds)) (sym long) ∙ be_number ds (bytes_take w (drop at bs) (bytes_drop at bs h))

-- a row of fields whose values are the numbers of some bytes is those bytes
pub bytes_numbers : (fs : List Field) (at : ℕ) (bs : List ℕ) → Bytes bs → at + total fs ≤ length bs → values fs ≡ numbers (widths fs) at bs → bytes fs ≡ take (total fs) (drop at bs)
bytes_numbers [] at bs h l e = refl
bytes_numbers (f ∷ fs) at bs h l e =
    let w = f.width in
    let x : f.value ≡ number_at w at bs = ap (λ vs. get_or vs 0 0) e in
    let xs : values fs ≡ numbers (widths fs) (at + w) bs = ap (drop 1) e in
    let here : be w f.value ≡ take w (drop at bs) = ap (be w) x ∙ be_at w at bs h (omega arith) in
    let rest : bytes fs ≡ take (total fs) (drop w (drop at bs)) = bytes_numbers fs (at + w) bs h (omega arith) xs ∙ ap (take (total fs)) (sym (drop-drop w at bs)) in
    ap₂ (λ p q. p ++ q) here rest ∙ sym (take-add w (total fs) (drop at bs))
