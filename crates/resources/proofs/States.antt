-- The bits of a state are what the flags bring.
use Rattle.std.proofs.Common.{◌≡◌, ℕ, zero, suc, ◌+◌, ◌*◌, ◌^◌, ◌<◌, true, false, cond, eqb, ◌⊎◌, List, [], ◌∷◌, length, get_or, refl, sym, ap, ◌∙◌, inl, inr, ⊎_elim, add-zero, add-suc, suc-add, one-mul, zero-add, zero-mul, add-one, arith, pow_pos}
use lib.Bits.{bit_and, bit_or}
use Rattle.std.specs.Int.{bit_at}
use Rattle.std.proofs.lemmas.Nat.Bits.{bit_at-zero, bit_at-lt, bit_at_or, and_pow}
use Rattle.std.specs.List.{fold}
use Rattle.std.proofs.lemmas.Bool.{eq-eqb, eqb-true, ne_eqb, cases_Bool, cases_eq, cond-true, cond-false}
use Rattle.command_list.specs.Bits.{bit}
use Rattle.resources.specs.States.{common, flag_state, united, buffer_flags, texture_flags}
use Rattle.resources.specs.Usages.{Usage, buffer, texture, state_of, Stated}

-- ---- one bit

on : (m k : ℕ) → bit_at m k ≡ 1 → bit m k ≡ true
unfolding bit
on m k e = eq-eqb (bit_at m k) 1 e

off : (m k : ℕ) → (bit_at m k ≡ 1 → ⊥) → bit m k ≡ false
unfolding bit
off m k n = ne_eqb (bit_at m k) 1 n

one : (m k : ℕ) → bit m k ≡ true → bit_at m k ≡ 1
unfolding bit
one m k e = eqb-true (bit_at m k) 1 e

or_one : (a b k : ℕ) → bit (bit_or a b) k ≡ true → (bit a k ≡ true) ⊎ (bit b k ≡ true)
or_one a b k e =
    let d = one (bit_or a b) k e in
    ⊎_elim
    (λ x. inl (on a k x))
    (λ x. inr (on b k (omega (arith, bit_at_or a b k, bit_at-lt a k, bit_at-lt b k, d, x))))
    (cases_eq (bit_at a k) 1)

one_or : (a b k : ℕ) → (bit a k ≡ true) ⊎ (bit b k ≡ true) → bit (bit_or a b) k ≡ true
one_or a b k h = on (bit_or a b) k (omega (arith, bit_at_or a b k, bit_at-lt a k, bit_at-lt b k, either))
  where
    either : (bit_at a k ≡ 1) ⊎ (bit_at b k ≡ 1)
    either = ⊎_elim (λ x. inl (one a k x)) (λ x. inr (one b k x)) h

bit_none : (k : ℕ) → bit 0 k ≡ true → ⊥
bit_none k e = omega (arith, one 0 k e, bit_at-zero k)

-- ---- a flag

tested : (d p s : ℕ) → d < 2 → 0 < p → cond (eqb (d * p) 0) 0 s ≡ cond (eqb d 1) s 0
tested zero p s h l = rw (zero-mul p)
tested (suc zero) p s h l = let n : p ≡ 0 → ⊥ = λ e. omega arith in rw (one-mul p, ne_eqb p 0 n)
tested (suc (suc d)) p s h l = absurd (omega arith)

-- a test by `&` is the flag's
pub flag_is : (u k s : ℕ) → cond (eqb (bit_and u (2 ^ k)) 0) 0 s ≡ flag_state u k s
unfolding bit
flag_is u k s = ap (λ (x : ℕ). cond (eqb x 0) 0 s) (and_pow u k) ∙ tested (bit_at u k) (2 ^ k) s (bit_at-lt u k) (pow_pos k)

pub flag_on : (u k : ℕ) → (bit_and u (2 ^ k) ≡ 0 → ⊥) → bit u k ≡ true
flag_on u k n =
    ⊎_elim
    (λ e. on u k e)
    (λ e. let d : bit_at u k ≡ 0 = omega (arith, bit_at-lt u k, e) in
    absurd (n (and_pow u k ∙ ap (λ (x : ℕ). x * 2 ^ k) d ∙ zero-mul (2 ^ k))))
    (cases_eq (bit_at u k) 1)

pub flag_off : (u k : ℕ) → bit_and u (2 ^ k) ≡ 0 → bit u k ≡ false
flag_off u k z =
    off u k
    (λ e. let o = and_pow u k ∙ ap (λ (x : ℕ). x * 2 ^ k) e ∙ one-mul (2 ^ k) in absurd (omega (arith, pow_pos k)))

-- ---- all flags

flag_brings : (u k x s : ℕ) → bit (flag_state u k x) s ≡ true → (bit u k ≡ true) × (bit x s ≡ true)
flag_brings u k x s e =
    ⊎_elim
    (λ t. (t, ap (λ (y : ℕ). bit y s) (sym (cond-true (bit u k) x common t)) ∙ e))
    (λ f. absurd (bit_none s (ap (λ (y : ℕ). bit y s) (sym (cond-false (bit u k) x common f)) ∙ e)))
    (cases_Bool (bit u k))

brings_flag : (u k x s : ℕ) → bit u k ≡ true → bit x s ≡ true → bit (flag_state u k x) s ≡ true
brings_flag u k x s t e = ap (λ (y : ℕ). bit y s) (cond-true (bit u k) x common t) ∙ e

pub united_brought : (u k acc : ℕ) (ss : List ℕ) (s : ℕ) → bit (united u k acc ss) s ≡ true
    → (bit acc s ≡ true) ⊎ ((j : ℕ) × (j < length ss) × (bit u (k + j) ≡ true) × (bit (get_or ss j common) s ≡ true))
united_brought u k acc [] s e = inl e
united_brought u k acc (x ∷ ss) s e =
    ⊎_elim
    (λ h. ⊎_elim (λ p. inl p) (λ p. let q = flag_brings u k x s p in inr (0, omega arith, rw (add-zero k) q.0, q.1)) (or_one acc (flag_state u k x) s h))
    (λ h. inr (suc h.0, omega (arith, h.1), ap (bit u) (add-suc k h.0 ∙ sym (suc-add k h.0) ∙ ap (λ (n : ℕ). n + h.0) (sym (add-one k))) ∙ h.2, h.3))
    (united_brought u (k + 1) (bit_or acc (flag_state u k x)) ss s e)

pub united_keeps : (u k acc : ℕ) (ss : List ℕ) (s : ℕ) → bit acc s ≡ true → bit (united u k acc ss) s ≡ true
united_keeps u k acc [] s e = e
united_keeps u k acc (x ∷ ss) s e = united_keeps u (k + 1) (bit_or acc (flag_state u k x)) ss s (one_or acc (flag_state u k x) s (inl e))

pub united_whole : (u k acc : ℕ) (ss : List ℕ) (s j : ℕ) → j < length ss → bit u (k + j) ≡ true → bit (get_or ss j common) s ≡ true → bit (united u k acc ss) s ≡ true
united_whole u k acc [] s j l t e = absurd (omega arith)
united_whole u k acc (x ∷ ss) s zero l t e =
    united_keeps u (k + 1) (bit_or acc (flag_state u k x)) ss s (one_or acc (flag_state u k x) s (inr (brings_flag u k x s (ap (bit u) (sym (add-zero k)) ∙ t) e)))
united_whole u k acc (x ∷ ss) s (suc j) l t e =
    united_whole u (k + 1) (bit_or acc (flag_state u k x)) ss s j (omega arith)
    (ap (bit u) (ap (λ (n : ℕ). n + j) (add-one k) ∙ suc-add k j ∙ sym (add-suc k j)) ∙ t) e

module _ (u : ℕ) (ss : List ℕ) (s : ℕ) where
  pub all_brought : bit (united u 0 common ss) s ≡ true → (j : ℕ) × (j < length ss) × (bit u j ≡ true) × (bit (get_or ss j common) s ≡ true)
  all_brought e =
      ⊎_elim (λ p. absurd (bit_none s p)) (λ h. (h.0, h.1, ap (bit u) (sym (zero-add h.0)) ∙ h.2, h.3)) (united_brought u 0 common ss s e)

  pub all_whole : ((j : ℕ) × (j < length ss) × (bit u j ≡ true) × (bit (get_or ss j common) s ≡ true)) → bit (united u 0 common ss) s ≡ true
  all_whole h = united_whole u 0 common ss s h.0 h.1 (ap (bit u) (zero-add h.0) ∙ h.2) h.3

-- the flags from the one of value 2 ^ k on, each beside what it brings
abbrev pub beside : ℕ → List ℕ → List (ℕ × ℕ)
beside k [] = []
beside k (s ∷ ss) = (2 ^ k, s) ∷ beside (k + 1) ss

-- they are united as a fold over them unites them
pub united_fold : (u k acc : ℕ) (ss : List ℕ) → fold (λ (x : ℕ) (p : ℕ × ℕ). bit_or x (cond (eqb (bit_and u p.0) 0) 0 p.1)) acc (beside k ss) ≡ united u k acc ss
united_fold u k acc [] = refl
united_fold u k acc (s ∷ ss) =
    ap (λ (y : ℕ). fold (λ (x : ℕ) (p : ℕ × ℕ). bit_or x (cond (eqb (bit_and u p.0) 0) 0 p.1)) (bit_or acc y) (beside (k + 1) ss)) (flag_is u k s)
    ∙ united_fold u (k + 1) (bit_or acc (flag_state u k s)) ss

pub stated : (u : Usage) (r : ℕ) → r ≡ state_of u → Stated u r
stated (buffer u) r e = record {
  is = e;
  brought = λ s d. all_brought u (buffer_flags u) s (ap (λ (x : ℕ). bit x s) (sym e) ∙ d);
  whole = λ s h. ap (λ (x : ℕ). bit x s) e ∙ all_whole u (buffer_flags u) s h;
}
stated (texture u) r e = record {
  is = e;
  brought = λ s d. all_brought u texture_flags s (ap (λ (x : ℕ). bit x s) (sym e) ∙ d);
  whole = λ s h. ap (λ (x : ℕ). bit x s) e ∙ all_whole u texture_flags s h;
}
