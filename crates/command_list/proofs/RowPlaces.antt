-- Rows by their places.
use Rattle.std.proofs.Common.{◌≡◌, ℕ, zero, suc, ◌+◌, ◌*◌, ◌/◌, ◌<◌, ◌≤◌, nat_le, nat_lt, if◌then◌else◌, ◌&&◌, List, length, is_some, None, Option, sym, ap, refl, ◌∙◌, ⊎_elim, mul-suc, arith}
use Rattle.std.proofs.Math.Nat.{mul_comm, le-div_iff_mul-le}
use Rattle.std.specs.List.{list_all, range_with_len}
use Rattle.command_list.specs.Numbers.{number_at}
use Rattle.command_list.specs.Commands.{entry_width}
use Rattle.command_list.specs.Decoding.{type_of, barriers}
use Rattle.command_list.specs.Seen.{entry_numbers}
use Rattle.command_list.specs.RowLaws.{entry_typed, each_entry}
use Rattle.std.proofs.lemmas.Bool.{cond-true, cond-false, lt-ltb, le-ltb, le-leb, lt-leb, cases_lt}

-- a test of places below n, over places below n
all_below : {A : Type 0} (f : ℕ → Option A) (n k i : ℕ) → i + k ≤ n → list_all (λ j. is_some (if nat_lt j n then f j else None)) (range_with_len i k) ≡ list_all (λ j. is_some (f j)) (range_with_len i k)
all_below f n zero i h = refl
all_below f n (suc k) i h =
    ap (λ o. is_some o && list_all (λ j. is_some (if nat_lt j n then f j else None)) (range_with_len (i + 1) k)) (cond-true _ _ _ (lt-ltb i n (omega arith)))
    ∙ ap (λ t. is_some (f i) && t) (all_below f n k (i + 1) (omega arith))

pub all_places : {A : Type 0} (f : ℕ → Option A) (n : ℕ) → list_all (λ j. is_some (if nat_lt j n then f j else None)) (range_with_len 0 n) ≡ list_all (λ j. is_some (f j)) (range_with_len 0 n)
all_places f n = all_below f n n 0 (omega arith)

-- a row of w bytes behind i others lies within l bytes where there are more than i of them
pub row_within : (w i l : ℕ) → 0 < w → nat_le (w * i + w) l ≡ nat_lt i (l / w)
row_within w i l h =
    let d = le-div_iff_mul-le {k = w} {x = i + 1} {y = l} h in
    let m = mul-suc w i in
    let c = mul_comm (i + 1) w in
    ⊎_elim {A = l < w * i + w} {B = w * i + w ≤ l}
    (λ z. lt-leb (w * i + w) l z ∙ sym (le-ltb i (l / w) (⊎_elim {A = l / w < i + 1} {B = i + 1 ≤ l / w} (λ y. omega arith) (λ y. absurd (let x = d.0 y in omega arith)) (cases_lt (l / w) (i + 1)))))
    (λ z. le-leb (w * i + w) l z ∙ sym (lt-ltb i (l / w) (let x = d.1 (omega arith) in omega arith)))
    (cases_lt l (w * i + w))

-- what stands at a place, below the last and past it
pub at_place : {A : Type 0} (f : ℕ → Option A) (s : ℕ → Option A) (n i : ℕ) → (i < n → f i ≡ s i) → (n ≤ i → None ≡ s i) → (if nat_lt i n then f i else None) ≡ s i
at_place f s n i a b = ⊎_elim {A = i < n} {B = n ≤ i} (λ l. cond-true _ _ _ (lt-ltb i n l) ∙ a l) (λ l. cond-false _ _ _ (le-ltb i n l) ∙ b l) (cases_lt i n)

-- the same, where a place is tested by the bytes that its row takes
pub whole_places : {A : Type 0} (f : ℕ → Option A) (w l : ℕ) → 0 < w
    → list_all (λ j. is_some (if nat_le (w * j + w) l then f j else None)) (range_with_len 0 (l / w))
    ≡ list_all (λ j. is_some (f j)) (range_with_len 0 (l / w))
whole_places f w l h =
    (λ k. list_all (λ j. is_some (if row_within w j l h k then f j else None)) (range_with_len 0 (l / w)))
    ∙ all_places f (l / w)

-- entries are ones where their types are known
pub typed_places : (bs : List ℕ) → list_all (λ j. is_some (type_of (number_at 1 (entry_width * j) bs))) (range_with_len 0 (length bs / entry_width))
    ≡ is_some (barriers (entry_numbers bs))
typed_places bs =
    (λ k. list_all (λ j. entry_typed (entry_width * j) bs k) (range_with_len 0 (length bs / entry_width)))
    ∙ each_entry bs
