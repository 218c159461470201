-- The loops over groups and slots: one step, and the end.
use Rattle.std.proofs.Common.{◌≡◌, ℕ, zero, suc, ◌*◌, ◌<◌, ◌≤◌, Bool, true, false, ◌&&◌, eqb, List, [], ◌∷◌, map, length, Some, None, Decides, Option, sym, refl, ap, ◌∙◌, add-one, arith, length-append}
use Rattle.std.specs.List.{list_all, range_with_len}
use Rattle.std.proofs.lemmas.List.Folds.{list_all-append, list_all-map}
use Rattle.std.proofs.lemmas.List.FromFn.{map-range_with_len_more}
use Rattle.std.proofs.lemmas.Bool.Decides.{Decides-below_and, Decides-eqb}
use Rattle.layouts.specs.declared.info.BindGroupInfo.{BindGroupInfo}
use Rattle.layouts.specs.declared.info.Owner.{Owner}
use Rattle.layouts.specs.Owners.{when, of_group, of_groups, group_within, groups_within, once_below}

pub all_within : (total : ℕ) (gs : List (Option BindGroupInfo)) → list_all (group_within total) gs ≡ groups_within total gs
all_within total [] = refl
all_within total (g ∷ gs) = ap (λ b. group_within total g && b) (all_within total gs)

-- a group's owners of one slot are at most two
when_few : (b : Bool) (o : Owner) → length (when b o) ≤ 1
when_few true o = omega arith
when_few false o = omega arith

group_few : (k : ℕ) (g : Option BindGroupInfo) → length (of_group k g) ≤ 2
group_few k None = omega arith
group_few k (Some g) = simp length-append (omega (arith, when_few, when_few))

pub groups_few : (k : ℕ) (gs : List (Option BindGroupInfo)) → length (of_groups k gs) ≤ 2 * length gs
groups_few k [] = omega arith
groups_few k (g ∷ gs) = omega (arith, length-append (of_group k g) (of_groups k gs), group_few k g, groups_few k gs)

-- what `once_below` decides
pub once_decides : (f : ℕ → List Owner) (n : ℕ) → Decides (once_below f n) ((k : ℕ) → k < n → length (f k) ≡ 1)
unfolding once_below
once_decides f n = Decides-below_and (λ k. eqb (length (f k)) 1) (λ k. length (f k) ≡ 1) (once_below f) (λ k. Decides-eqb (length (f k)) 1) refl (λ _. refl) n

pub all_once : (f : ℕ → List Owner) (n : ℕ) → list_all (λ k. eqb (length (f k)) 1) (range_with_len 0 n) ≡ once_below f n
unfolding once_below
all_once f zero = refl
all_once f (suc n) =
    sym (list_all-map one count (range_with_len 0 (suc n)))
    ∙ ap (list_all one) (ap (λ j. map count (range_with_len 0 j)) (sym (add-one n)) ∙ map-range_with_len_more count 0 n n (omega arith))
    ∙ list_all-append one (map count (range_with_len 0 n)) (count n ∷ [])
    ∙ ap (λ b. b && (one (count n) && true)) (list_all-map one count (range_with_len 0 n) ∙ all_once f n)
    ∙ turn (once_below f n) (one (count n))
  where
    count : ℕ → ℕ
    count k = length (f k)

    one : ℕ → Bool
    one m = eqb m 1

    turn : (a b : Bool) → (a && (b && true)) ≡ (b && a)
    turn true true = refl
    turn true false = refl
    turn false true = refl
    turn false false = refl
