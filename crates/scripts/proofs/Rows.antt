-- A row of words, taken one thing at a time.
use Rattle.std.proofs.Common.{◌≡◌, ℕ, suc, zero, ◌-◌, ◌<◌, ◌≤◌, ◌++◌, List, [], ◌∷◌, length, drop, Option, Some, None, Err, option_map, option_and_then, refl, ap, sym, ◌∙◌, append_assoc, arith}
use Rattle.std.proofs.lemmas.Grind.{common_steps}
use Rattle.scripts.specs.declared.not_done.NotDone.{NotDone}
use Rattle.scripts.specs.declared.not_done.NotDone.TheVariants.{BadLine, Unknown, NotOffered, Refused, Memory}
use Rattle.scripts.specs.Words.{Word, Reads, ReadsAs}
use Rattle.scripts.specs.Fronts.{Front, behind, all}

module _ {T : Type 0} (front : Front T) where
  pub behind-drop : (n : ℕ) (ws : List Word) → behind n front ws ≡ all front (drop n ws)
  unfolding behind
  behind-drop zero ws = refl
  behind-drop (suc n) [] = refl
  behind-drop (suc n) (w ∷ ws) = behind-drop n ws

  -- words that say nothing at their head say nothing
  pub none_first : (ws : List Word) → 0 < length ws → front ws ≡ None → all front ws ≡ None
  unfolding behind
  none_first [] h e = grind arith
  none_first (w ∷ ws) h e = rw e refl

  -- what words say: the first, and what the words behind it say
  pub first_then : (ws : List Word) (x : T) (n : ℕ) → front ws ≡ Some (x, n) → 0 < n → n ≤ length ws
      → all front ws ≡ option_map (λ others. x ∷ others) (all front (drop n ws))
  unfolding behind
  first_then [] x n e h k = grind arith
  first_then (w ∷ ws) x (suc n) e h k = let same : suc n - 1 ≡ n = omega arith in
      rw e (rw (behind-drop (suc n - 1) ws) (rw same (go (all front (drop n ws)))))
    where
      go : (o : Option (List T)) → option_and_then (λ others. Some (x ∷ others)) o ≡ option_map (λ others. x ∷ others) o
      go None = refl
      go (Some others) = refl
  first_then (w ∷ ws) x zero e h k = grind arith

  module _ (words rest : List Word) (done : List T) (so_far : all front words ≡ option_map (λ others. done ++ others) (all front rest)) where
    -- what was read so far, and one thing more
    pub one_more : (x : T) (n : ℕ) → front rest ≡ Some (x, n) → 0 < n → n ≤ length rest
        → all front words ≡ option_map (λ others. (done ++ x ∷ []) ++ others) (all front (drop n rest))
    one_more x n e h k = so_far ∙ rw (first_then rest x n e h k) (go (all front (drop n rest)))
      where
        go : (o : Option (List T)) → option_map (λ others. done ++ others) (option_map (λ others. x ∷ others) o) ≡ option_map (λ others. (done ++ x ∷ []) ++ others) o
        go None = refl
        go (Some others) = ap (λ ys. Some ys) (sym (append_assoc done (x ∷ []) others))

    -- at the end, all
    pub at_end : rest ≡ [] → all front words ≡ Some done
    unfolding behind
    at_end e = grind (arith, common_steps, so_far, e)

    -- what follows says nothing
    pub stops : 0 < length rest → front rest ≡ None → all front words ≡ None
    stops h e = so_far ∙ rw (none_first rest h e) refl

    -- as the thing in front is not read, so are not all
    pub stopped : {A : Type 0} (seen : A → List T) (e : NotDone) → 0 < length rest
        → Reads {A = T × ℕ} (front rest) (Err e) → ReadsAs seen (all front words) (Err e)
    stopped seen BadLine h k = stops h k
    stopped seen (Memory m) h k = tt
    stopped seen (Unknown s) h k = k
    stopped seen NotOffered h k = k
    stopped seen (Refused f) h k = k
