-- A mask as a set of places: the lowest one, and what `|`, `&`, `^`, `!` and `1 <<` make of it. From std's laws of digits.
use Rattle.std.proofs.Common.{◌≡◌, ℕ, zero, suc, ◌+◌, ◌-◌, ◌*◌, ◌/◌, ◌%◌, ◌^◌, ◌<◌, ◌≤◌, Bool, true, false, cond, not, ◌&&◌, ◌||◌, eqb, ltb, leb, min, max, ◌≢◌, ◌⊎◌, sym, refl, ap, ◌∙◌, ap₂, inl, inr, ⊎_elim, arith}
use Rattle.std.specs.Int.{w64, bit_at}
use lib.Bits.{bit_and, bit_or, bit_xor}
use lib.Count.{count_trailing_zeros}
use Rattle.std.proofs.lemmas.Bool.{eq-eqb, ne_eqb, cases_eq, cases_lt, lt-ltb, le-ltb}
use Rattle.std.proofs.lemmas.Nat.{pow_pos, or_disjoint}
use Rattle.std.proofs.lemmas.Nat.Bits.{bit_at-zero, bit_at-lt, bit_at_and, bit_at_or, bit_at_xor, bit_at-pow_same, bit_at-pow_other, and_pow, bit_at_ones, bit_at_ones_above, bit_at_not, bit_at-trailing_zeros, bit_at_above, same_from_bits}
use Rattle.std.proofs.lemmas.Bool.Decides.{nat_tests}
use Rattle.command_list.specs.Bits.{bit}

-- A digit is 1 where its place is in the mask, and else 0.
abbrev digit : Bool → ℕ
digit b = cond b 1 0

digit_of : (m k : ℕ) → bit_at m k ≡ digit (bit m k)
unfolding bit
digit_of m k = by (bit_at m k) (bit_at-lt m k)
  where
    by : (d : ℕ) → d < 2 → d ≡ digit (eqb d 1)
    by zero h = refl
    by (suc zero) h = refl
    by (suc (suc d)) h = absurd (omega arith)

from_digit : (m k : ℕ) (b : Bool) → bit_at m k ≡ digit b → bit m k ≡ b
unfolding bit
from_digit m k true e = ap (λ d. eqb d 1) e
from_digit m k false e = ap (λ d. eqb d 1) e

-- The lowest set place of a mask that is not 0.
pub record Lowest (m i : ℕ) : Type 0 where
  pub here : bit m i ≡ true
  pub below : (s : ℕ) → s < i → bit m s ≡ false

pub trailing_lowest : (m : ℕ) → 0 < m → m < 2 ^ 64 → (count_trailing_zeros 64 m < 64) × Lowest m (count_trailing_zeros 64 m)
trailing_lowest m p h =
    let low = bit_at-trailing_zeros w64 m p h in
    (low.0, record { here = from_digit m _ true low.1; below = λ s g. from_digit m s false (low.2 s g) })

pub bit_pow : (i s : ℕ) → bit (2 ^ i) s ≡ eqb s i
bit_pow i s =
    ⊎_elim
    (λ e. from_digit (2 ^ i) s true (ap (bit_at (2 ^ i)) e ∙ bit_at-pow_same i) ∙ sym (eq-eqb s i e))
    (λ n. from_digit (2 ^ i) s false (bit_at-pow_other i s n) ∙ sym (ne_eqb s i n))
    (cases_eq s i)

abbrev pub differs : Bool → Bool → Bool
differs true b = not b
differs false b = b

pub bit_xor_lem : (a b s : ℕ) → bit (bit_xor a b) s ≡ differs (bit a s) (bit b s)
bit_xor_lem a b s =
    from_digit (bit_xor a b) s _ (bit_at_xor a b s ∙ ap₂ (λ x y. (x + y) % 2) (digit_of a s) (digit_of b s) ∙ by (bit a s) (bit b s))
  where
    by : (x y : Bool) → (digit x + digit y) % 2 ≡ digit (differs x y)
    by true true = refl
    by true false = refl
    by false true = refl
    by false false = refl

pub bit_or_lem : (a b s : ℕ) → bit (bit_or a b) s ≡ (bit a s || bit b s)
bit_or_lem a b s = from_digit (bit_or a b) s _ (bit_at_or a b s ∙ ap₂ max (digit_of a s) (digit_of b s) ∙ by (bit a s) (bit b s))
  where
    by : (x y : Bool) → max (digit x) (digit y) ≡ digit (x || y)
    by true true = refl
    by true false = refl
    by false true = refl
    by false false = refl

pub bit_and_lem : (a b s : ℕ) → bit (bit_and a b) s ≡ (bit a s && bit b s)
bit_and_lem a b s = from_digit (bit_and a b) s _ (bit_at_and a b s ∙ ap₂ min (digit_of a s) (digit_of b s) ∙ by (bit a s) (bit b s))
  where
    by : (x y : Bool) → min (digit x) (digit y) ≡ digit (x && y)
    by true true = refl
    by true false = refl
    by false true = refl
    by false false = refl

-- The place i taken out of a mask that has it, and the others as they were.
pub out_here : (m i : ℕ) → bit m i ≡ true → bit (bit_xor m (2 ^ i)) i ≡ false
out_here m i h = bit_xor_lem m (2 ^ i) i ∙ ap₂ differs h (bit_pow i i ∙ eq-eqb i i refl)

pub out_other : (m i s : ℕ) → s ≢ i → bit (bit_xor m (2 ^ i)) s ≡ bit m s
out_other m i s n = bit_xor_lem m (2 ^ i) s ∙ ap (differs (bit m s)) (bit_pow i s ∙ ne_eqb s i n) ∙ same (bit m s)
  where
    same : (b : Bool) → differs b false ≡ b
    same true = refl
    same false = refl

-- The place i put into a mask.
pub in_at : (m i s : ℕ) → bit (bit_or m (2 ^ i)) s ≡ cond (eqb s i) true (bit m s)
in_at m i s = bit_or_lem m (2 ^ i) s ∙ ap (λ b. bit m s || b) (bit_pow i s) ∙ turn (bit m s) (eqb s i)
  where
    turn : (a b : Bool) → (a || b) ≡ cond b true a
    turn true true = refl
    turn true false = refl
    turn false true = refl
    turn false false = refl

pub bit_none : (s : ℕ) → bit 0 s ≡ false
bit_none s = from_digit 0 s false (bit_at-zero s)

-- The mask of the places below t.
pub bit_all : (t s : ℕ) → bit (2 ^ t - 1) s ≡ ltb s t
bit_all t s =
    ⊎_elim
    (λ h. from_digit (2 ^ t - 1) s true (bit_at_ones t s h) ∙ sym (lt-ltb s t h))
    (λ h. from_digit (2 ^ t - 1) s false (bit_at_ones_above t s h) ∙ sym (le-ltb s t h))
    (cases_lt s t)

-- A mask of k digits has no place from k on.
pub bit_high : (k m s : ℕ) → m < 2 ^ k → k ≤ s → bit m s ≡ false
bit_high k m s h g = from_digit m s false (bit_at_above m k s h g)

-- Masks with the same places are equal.
pub same_bits : (m n : ℕ) → ((s : ℕ) → bit m s ≡ bit n s) → m ≡ n
same_bits m n f = same_from_bits m n (λ s. digit_of m s ∙ ap digit (f s) ∙ sym (digit_of n s))

-- It is smaller without one of its places: put in again, the place adds 2 ^ i.
pub out_less : (i m : ℕ) → bit m i ≡ true → bit_xor m (2 ^ i) < m
out_less i m h =
    let out = bit_xor m (2 ^ i) in
    let apart : bit_and out (2 ^ i) ≡ 0 = and_pow out i ∙ ap (λ d. d * 2 ^ i) (digit_of out i ∙ ap digit (out_here m i h)) ∙ omega arith in
    let back : bit_or out (2 ^ i) ≡ m = same_bits (bit_or out (2 ^ i)) m (λ s. in_at out i s ∙ again s (cases_eq s i)) in
    omega (arith, back, or_disjoint out (2 ^ i) apart, pow_pos i)
  where
    again : (s : ℕ) → (s ≡ i) ⊎ (s ≢ i) → cond (eqb s i) true (bit (bit_xor m (2 ^ i)) s) ≡ bit m s
    again s (inl e) = rw (eq-eqb s i e) (sym h ∙ ap (bit m) (sym e))
    again s (inr n) = rw (ne_eqb s i n) (out_other m i s n)

-- All places of 64 that a mask has not.
pub bit_not : (m s : ℕ) → m < 2 ^ 64 → s < 64 → bit (2 ^ 64 - 1 - m) s ≡ not (bit m s)
bit_not m s h g =
    from_digit (2 ^ 64 - 1 - m) s _ (bit_at_not w64 m s h g ∙ ap (λ d. 1 - d) (digit_of m s) ∙ by (bit m s))
  where
    by : (x : Bool) → 1 - digit x ≡ digit (not x)
    by true = refl
    by false = refl

-- The digit at a place, as a shift and a mask read it.
pub bit_shift : (s m : ℕ) → eqb (m / 2 ^ s % 2) 1 ≡ bit m s
unfolding bit
bit_shift s m = refl

-- The places below n of 64.
pub low_within : (n k : ℕ) → n < 64 → bit (2 ^ n - 1) k ≡ (ltb k n && ltb k 64)
low_within n k h = bit_all n k ∙ part
  where
    part : ltb k n ≡ (ltb k n && ltb k 64)
    part = grind (arith, nat_tests)

pub low_all : (n k : ℕ) → 64 ≤ n → bit (2 ^ 64 - 1) k ≡ (ltb k n && ltb k 64)
low_all n k h = bit_all 64 k ∙ part
  where
    part : ltb k 64 ≡ (ltb k n && ltb k 64)
    part = grind (arith, nat_tests)

-- The places from a up to b of 64: those below b, without those below a.
pub span_of : (a b x y : ℕ) → x < 2 ^ 64 → y < 2 ^ 64
    → ((k : ℕ) → bit x k ≡ (ltb k b && ltb k 64)) → ((k : ℕ) → bit y k ≡ (ltb k a && ltb k 64))
    → (k : ℕ) → bit (bit_and x (2 ^ 64 - 1 - y)) k ≡ (leb a k && (ltb k b && ltb k 64))
span_of a b x y p q f g k = bit_and_lem x (2 ^ 64 - 1 - y) k ∙ ap (λ t. t && bit (2 ^ 64 - 1 - y) k) (f k) ∙ by (cases_lt k 64)
  where
    none : (t u v : Bool) → ((t && false) && v) ≡ (u && (t && false))
    none true true v = refl
    none true false v = refl
    none false u v = by_false u
      where
        by_false : (u : Bool) → false ≡ (u && false)
        by_false true = refl
        by_false false = refl

    by : (k < 64) ⊎ (64 ≤ k) → ((ltb k b && ltb k 64) && bit (2 ^ 64 - 1 - y) k) ≡ (leb a k && (ltb k b && ltb k 64))
    by (inl h) = ap (λ t. (ltb k b && ltb k 64) && t) (bit_not y k q h ∙ ap not (g k)) ∙ grind (arith, nat_tests)
    by (inr h) = rw (le-ltb k 64 h) (none (ltb k b) (leb a k) (bit (2 ^ 64 - 1 - y) k))
