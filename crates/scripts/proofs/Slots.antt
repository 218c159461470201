-- The text of what each slot has, slot by slot, and of words.
use Rattle.std.proofs.Common.{◌≡◌, ℕ, ◌+◌, ◌<◌, List, [], ◌∷◌, ◌++◌, length, get_or, take, map, min, flat_map, arith, refl, sym, ap, ◌∙◌, append_assoc}
use Rattle.std.specs.List.{enumerate_from, join_with_byte}
use Rattle.std.specs.Fmt.{HasWritten, decimal}
use Rattle.std.specs.declared.fmt.Formatter.{Formatter}
use Rattle.std.proofs.Output.{has_written_append, has_written_of_eq}
use Rattle.std.proofs.lemmas.List.{take_min, map-append}
use Rattle.std.proofs.lemmas.Grind.{common_steps, take_at_read}
use Rattle.scripts.specs.Shown.{by_slot, word_list}

-- one more slot behind the others
one_behind : {X : Type 0} (text : ℕ → X → List ℕ) (n : ℕ) (xs : List X) (x : X)
    → flat_map (λ p. text p.0 p.1) (enumerate_from n (xs ++ x ∷ []))
    ≡ flat_map (λ p. text p.0 p.1) (enumerate_from n xs) ++ text (n + length xs) x
one_behind text n [] x = grind (arith, common_steps)
one_behind text n (y ∷ ys) x = let rest = one_behind text (n + 1) ys x in grind (arith, common_steps)

one_slot : {X : Type 0} (text : ℕ → X → List ℕ) (xs : List X) (i : ℕ) (d : X) → i < length xs
    → by_slot text (take i xs) ++ text i (get_or xs i d) ≡ by_slot text (take (i + 1) xs)
one_slot text xs i d h =
    let read = (take_at_read xs i d h).1 in
    let behind = one_behind text 0 (take i xs) (get_or xs i d) in
    grind (arith, common_steps)

-- one more slot was written
pub slot_written : {W X : Type 0} {took : W → List ℕ → W → Type 0} {f g h : Formatter W}
    (text : ℕ → X → List ℕ) (xs : List X) (i : ℕ) (d : X) → i < length xs
    → HasWritten took f (by_slot text (take i xs)) g
    → HasWritten took g (text i (get_or xs i d)) h
    → HasWritten took f (by_slot text (take (i + 1) xs)) h
slot_written text xs i d within before now =
    has_written_of_eq _ _ _ _ _ (one_slot text xs i d within)
    (has_written_append _ _ _ _ _ _ before now)

-- one more text behind others, with a byte before it
one_joined : (c : ℕ) (x : List ℕ) (ys : List (List ℕ)) (y : List ℕ)
    → join_with_byte c (x ∷ ys) ++ (c ∷ y) ≡ join_with_byte c (x ∷ (ys ++ y ∷ []))
one_joined c x [] y = refl
one_joined c x (z ∷ zs) y =
    append_assoc x (c ∷ join_with_byte c (z ∷ zs)) (c ∷ y)
    ∙ ap (λ (t : List ℕ). x ++ (c ∷ t)) (one_joined c z zs y)

one_word : (w : ℕ) (ws : List ℕ) (i : ℕ) → i < length ws
    → word_list (w ∷ take i ws) ++ (44 ∷ decimal (get_or ws i 0)) ≡ word_list (w ∷ take (i + 1) ws)
one_word w ws i h =
    one_joined 44 (decimal w) (map decimal (take i ws)) (decimal (get_or ws i 0))
    ∙ ap (λ (ts : List (List ℕ)). join_with_byte 44 (decimal w ∷ ts))
    (sym (map-append decimal (take i ws) (get_or ws i 0 ∷ []))
    ∙ ap (map decimal) (sym (take_at_read ws i 0 h).1))

-- one more word was written
pub word_written : {W : Type 0} {took : W → List ℕ → W → Type 0} {f g h : Formatter W}
    (w : ℕ) (ws : List ℕ) (i : ℕ) → i < length ws
    → HasWritten took f (word_list (w ∷ take i ws)) g
    → HasWritten took g (44 ∷ decimal (get_or ws i 0)) h
    → HasWritten took f (word_list (w ∷ take (i + 1) ws)) h
word_written w ws i within before now =
    has_written_of_eq _ _ _ _ _ (one_word w ws i within)
    (has_written_append _ _ _ _ _ _ before now)

pub min_taken : (k n : ℕ) (xs : List ℕ) → k ≡ min n 32 → length xs ≡ 32 → take k xs ≡ take n xs
min_taken k n xs e l = ap (λ m. take m xs) (e ∙ ap (min n) (sym l)) ∙ take_min n xs
