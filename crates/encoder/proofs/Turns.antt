-- A loop that takes the lowest slot out of a mask, turn by turn.
use Rattle.std.proofs.Common.{◌≡◌, ℕ, zero, suc, ◌+◌, ◌*◌, ◌%◌, ◌^◌, ◌<◌, ◌≤◌, ◌≢◌, Bool, true, false, cond, List, [], ◌++◌, bit_xor, sym, refl, ap, ap₂, ◌∙◌, subst, ⊎_elim, arith}
use lib.Count.{count_trailing_zeros}
use Rattle.std.proofs.lemmas.Bool.{true≢false, cases_eq, cases_lt}
use Rattle.std.proofs.lemmas.Nat.{one_shl}
use Rattle.command_list.specs.Commands.{Command}
use Rattle.device.specs.Meaning.{sizes}
use Rattle.device.proofs.Runs.{sizes_append}
use Rattle.command_list.specs.Bits.{bit}
use Rattle.layouts.proofs.Masks.{trailing_lowest, out_here, out_other, out_less, bit_none}
use Rattle.device.specs.Writes.{gathered}

pub gathered_same : (t u : ℕ → Bool) (f : ℕ → List Command) (k n : ℕ) → ((j : ℕ) → k ≤ j → t j ≡ u j) → gathered t f k n ≡ gathered u f k n
unfolding gathered
gathered_same t u f k zero e = refl
gathered_same t u f k (suc n) e = ap₂ (λ b r. cond b (f k) [] ++ r) (e k (omega arith)) (gathered_same t u f (k + 1) n (λ j h. e j (omega arith)))

pub gathered_none : (t : ℕ → Bool) (f : ℕ → List Command) (k n : ℕ) → ((j : ℕ) → k ≤ j → t j ≡ false) → gathered t f k n ≡ []
unfolding gathered
gathered_none t f k zero e = refl
gathered_none t f k (suc n) e = ap₂ (λ b r. cond b (f k) [] ++ r) (e k (omega arith)) (gathered_none t f (k + 1) n (λ j h. e j (omega arith)))

-- slots that are not touched may be left out
pub gathered_fewer : (t : ℕ → Bool) (f : ℕ → List Command) (k m n : ℕ) → ((j : ℕ) → k + m ≤ j → t j ≡ false) → gathered t f k (m + n) ≡ gathered t f k m
unfolding gathered
gathered_fewer t f k zero n e = let q : zero + n ≡ n = omega arith in ap (gathered t f k) q ∙ gathered_none t f k n (λ j h. e j (omega arith))
gathered_fewer t f k (suc m) n e = let q : suc m + n ≡ suc (m + n) = omega arith in ap (gathered t f k) q ∙ ap (λ r. cond (t k) (f k) [] ++ r) (gathered_fewer t f (k + 1) m n (λ j h. e j (omega arith)))

module _ (t u : ℕ → Bool) (f : ℕ → List Command) (i : ℕ) (here : t i ≡ true) (gone : u i ≡ false)
    (others : (k : ℕ) → k ≢ i → u k ≡ t k) (below : (k : ℕ) → k < i → t k ≡ false) where
  at_first : (k n : ℕ) → k ≡ i → gathered t f k (suc n) ≡ f i ++ gathered u f k (suc n)
  unfolding gathered
  at_first k n q =
      let rest : gathered t f (k + 1) n ≡ gathered u f (k + 1) n = gathered_same t u f (k + 1) n (λ j h. sym (others j (λ w. omega arith))) in
      ap₂ (λ b r. cond b (f k) [] ++ r) (ap t q ∙ here) rest
      ∙ ap₂ (λ x b. f x ++ (cond b (f k) [] ++ gathered u f (k + 1) n)) q (sym (ap u q ∙ gone))

  -- the lowest touched slot, and then the others
  first_write : (n k : ℕ) → k ≤ i → i < k + n → gathered t f k n ≡ f i ++ gathered u f k n
  unfolding gathered
  first_write zero k l h = absurd (omega arith)
  first_write (suc n) k l h =
      ⊎_elim (at_first k n)
      (λ ne.
      let lt : k < i = omega arith in
      let tf : t k ≡ false = below k lt in
      let uf : u k ≡ false = others k ne ∙ tf in
      ap (λ b. cond b (f k) [] ++ gathered t f (k + 1) n) tf
      ∙ first_write n (k + 1) (omega arith) (omega arith)
      ∙ ap (λ b. f i ++ (cond b (f k) [] ++ gathered u f (k + 1) n)) (sym uf))
      (cases_eq k i)

-- a mask without its lowest slot
abbrev pub lowered : ℕ → ℕ
lowered m = bit_xor m (1 * 2 ^ count_trailing_zeros 64 m % 2 ^ 64)

pub record Turn (m : ℕ) : Type 0 where
  pub place : count_trailing_zeros 64 m < 64
  pub here : bit m (count_trailing_zeros 64 m) ≡ true
  pub falls : lowered m < m
  pub kept : (k : ℕ) → bit (lowered m) k ≡ true → (bit m k ≡ true) × (count_trailing_zeros 64 m < k)
  pub next : (f : ℕ → List Command) → gathered (bit m) f 0 64 ≡ f (count_trailing_zeros 64 m) ++ gathered (bit (lowered m)) f 0 64

pub turn : (m : ℕ) → (m ≡ 0 → ⊥) → m < 2 ^ 64 → Turn m
turn m n h =
    let low = trailing_lowest m (omega arith) h in
    let i = count_trailing_zeros 64 m in
    let shl : 2 ^ i ≡ 1 * 2 ^ i % 2 ^ 64 = sym (one_shl i 64 low.0) in
    let out = out_here m i low.1.here in
    let kept : (k : ℕ) → bit (bit_xor m (2 ^ i)) k ≡ true → (bit m k ≡ true) × (i < k) = λ k e.
    let apart : k ≢ i = λ q. true≢false (sym e ∙ ap (bit (bit_xor m (2 ^ i))) q ∙ out) in
    let was = sym (out_other m i k apart) ∙ e in
    (was, ⊎_elim (λ l. absurd (true≢false (sym was ∙ low.1.below k l))) (λ l. omega arith) (cases_lt k i)) in
    record {
      place = low.0;
      here = low.1.here;
      falls = subst (λ x. bit_xor m x < m) shl (out_less i m low.1.here);
      kept = subst (λ x. (k : ℕ) → bit (bit_xor m x) k ≡ true → (bit m k ≡ true) × (i < k)) shl kept;
      next = λ f.
          first_write (bit m) (bit (bit_xor m (2 ^ i))) f i low.1.here out (out_other m i) low.1.below 64 0 (omega arith) (omega (arith, low.0))
          ∙ ap (λ x. f i ++ gathered (bit (bit_xor m x)) f 0 64) shl;
    }

pub gathered_done : (m : ℕ) (f : ℕ → List Command) → m ≡ 0 → gathered (bit m) f 0 64 ≡ []
gathered_done m f z = ap (λ n. gathered (bit n) f 0 64) z ∙ gathered_none (bit 0) f 0 64 (λ j h. bit_none j)

-- how far a count of the bytes has come: those of the slots below `low` are in it
pub record Sizing (f : ℕ → List Command) (dirty rest size : ℕ) : Type 0 where
  pub whole : size + sizes (gathered (bit rest) f 0 64) ≡ sizes (gathered (bit dirty) f 0 64)
  pub low : ℕ
  pub above : (k : ℕ) → bit rest k ≡ true → low ≤ k
  pub small : size ≤ low * 288
  pub few : low ≤ 64

pub sizing_start : (f : ℕ → List Command) (dirty : ℕ) → Sizing f dirty dirty 0
sizing_start f dirty = record { whole = omega arith; low = 0; above = λ k e. omega arith; small = omega arith; few = omega arith }

module _ (f : ℕ → List Command) (dirty rest size n : ℕ) (t : Turn rest) (s : Sizing f dirty rest size) (is : n ≡ sizes (f (count_trailing_zeros 64 rest))) (small : n ≤ 288) where
  pub sizing_next : Sizing f dirty (lowered rest) (size + n)
  sizing_next =
      let i = count_trailing_zeros 64 rest in
      let low = s.above i t.here in
      record {
        whole = omega (arith, s.whole, ap sizes (t.next f), sizes_append (f i) (gathered (bit (lowered rest)) f 0 64), is);
        low = i + 1;
        above = λ k e. omega (arith, (t.kept k e).1);
        small = omega (arith, s.small, low, small);
        few = omega (arith, t.place);
      }

pub sizing_end : (f : ℕ → List Command) (dirty rest size : ℕ) → rest ≡ 0 → Sizing f dirty rest size → (size ≡ sizes (gathered (bit dirty) f 0 64)) × (size ≤ 64 * 288)
sizing_end f dirty rest size z s = (omega (arith, s.whole, ap sizes (gathered_done rest f z)), omega (arith, s.small, s.few))
