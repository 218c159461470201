-- The types of a barrier's entries, one entry after the other.
use Rattle.std.proofs.Common.{◌≡◌, ℕ, suc, ◌+◌, ◌-◌, ◌*◌, ◌/◌, ◌%◌, ◌<◌, ◌≤◌, ◌⊎◌, Bool, true, false, ◌&&◌, List, length, get_or, is_some, sym, ap, ◌∙◌, ⊎_elim, arith}
use Rattle.std.specs.List.{list_all, range_with_len}
use Rattle.std.proofs.lemmas.Bool.{cond-false, ne_eqb}
use Rattle.command_list.specs.Numbers.{number_at}
use Rattle.command_list.specs.Decoding.{type_of, barriers}
use Rattle.command_list.specs.Seen.{entry_numbers}
use Rattle.command_list.proofs.Places.{number_1}
use Rattle.command_list.proofs.RowPlaces.{typed_places}

abbrev pub typed : List ℕ → ℕ → Bool
typed bs j = is_some (type_of (number_at 1 (17 * j) bs))

-- whether each entry from the k-th on has a known type
unfoldable pub typed_from : ℕ → List ℕ → Bool
typed_from k bs = list_all (typed bs) (range_with_len k (length bs / 17 - k))

pub typed_start : (bs : List ℕ) → typed_from 0 bs ≡ is_some (barriers (entry_numbers bs))
unfolding typed_from
typed_start bs = let e : length bs / 17 - 0 ≡ length bs / 17 = omega arith in ap (λ n. list_all (typed bs) (range_with_len 0 n)) e ∙ typed_places bs

pub typed_end : (at : ℕ) (bs : List ℕ) → length bs / 17 * 17 ≤ at → typed_from (at / 17) bs ≡ true
unfolding typed_from
typed_end at bs l = let e : length bs / 17 - at / 17 ≡ 0 = omega arith in ap (λ n. list_all (typed bs) (range_with_len (at / 17) n)) e

typed_more : (at : ℕ) (bs : List ℕ) → at < length bs / 17 * 17 → at % 17 ≡ 0 → typed_from (at / 17) bs ≡ (is_some (type_of (get_or bs at 0)) && typed_from ((at + 17) / 17) bs)
unfolding typed_from
typed_more at bs l m =
    let rest : ℕ = length bs / 17 - (at + 17) / 17 in
    let n : length bs / 17 - at / 17 ≡ suc (length bs / 17 - (at + 17) / 17) = omega arith in
    let place : 17 * (at / 17) ≡ at = omega arith in
    let next : at / 17 + 1 ≡ (at + 17) / 17 = omega arith in
    ap (λ c. list_all (typed bs) (range_with_len (at / 17) c)) n
    ∙ ap (λ j. typed bs (at / 17) && list_all (typed bs) (range_with_len j rest)) next
    ∙ ap (λ p. is_some (type_of (number_at 1 p bs)) && list_all (typed bs) (range_with_len ((at + 17) / 17) rest)) place
    ∙ ap (λ t. is_some (type_of t) && list_all (typed bs) (range_with_len ((at + 17) / 17) rest)) (number_1 at bs (omega arith))

type_known : (t : ℕ) → (t ≡ 0) ⊎ (t ≡ 2) → is_some (type_of t) ≡ true
type_known t w = ⊎_elim (λ e. ap (λ k. is_some (type_of k)) e) (λ e. ap (λ k. is_some (type_of k)) e) w

type_unknown : (t : ℕ) → (t ≡ 0 → ⊥) → (t ≡ 2 → ⊥) → is_some (type_of t) ≡ false
type_unknown t p q = ap is_some (cond-false _ _ _ (ne_eqb t 0 p) ∙ cond-false _ _ _ (ne_eqb t 2 q))

pub typed_pass : (at : ℕ) (bs : List ℕ) → at < length bs / 17 * 17 → at % 17 ≡ 0 → (get_or bs at 0 ≡ 0) ⊎ (get_or bs at 0 ≡ 2) → typed_from ((at + 17) / 17) bs ≡ typed_from (at / 17) bs
typed_pass at bs l m w = sym (typed_more at bs l m ∙ ap (λ t. t && typed_from ((at + 17) / 17) bs) (type_known _ w))

pub typed_fail : (at : ℕ) (bs : List ℕ) → at < length bs / 17 * 17 → at % 17 ≡ 0 → (get_or bs at 0 ≡ 0 → ⊥) → (get_or bs at 0 ≡ 2 → ⊥) → false ≡ typed_from (at / 17) bs
typed_fail at bs l m p q = sym (typed_more at bs l m ∙ ap (λ t. t && typed_from ((at + 17) / 17) bs) (type_unknown _ p q))
