-- Entries put behind one another from a fill on.
use Rattle.std.proofs.Common.{◌≡◌, ℕ, ◌+◌, ◌<◌, ◌≤◌, List, [], ◌∷◌, ◌++◌, length, get_or, take, drop, set, Some, None, Option, sym, refl, ap, ◌∙◌, ap₂, arith, length-append, length-set}
use Rattle.std.specs.List.{between}
use Rattle.std.specs.Option.{option_to_list}
use Rattle.std.proofs.lemmas.List.{append-nil, append_assoc, take_more, take-set, get_or-set_same, take-set-le, map-append, take-append-drop, length_push}
use Rattle.std.proofs.lemmas.List.Edits.{between_more}
use Rattle.std.proofs.lemmas.Slice.{between_is}
use Rattle.command_list.specs.declared.command.Barrier.{Barrier}
use Rattle.resources.specs.declared.barrier.ResourceBarrier.{ResourceBarrier as Item}
use Rattle.resources.specs.Usages.{Usage}
use Rattle.resources.specs.Barriers.{Change, barrier_of, barriers_of}
use Rattle.resources.specs.Listed.{change_of, changes_of}

-- ---- barriers of more changes

pub barriers_append : (cs ds : List Change) → barriers_of (cs ++ ds) ≡ barriers_of cs ++ barriers_of ds
barriers_append [] ds = refl
barriers_append (c ∷ cs) ds =
    ap (λ (l : List Barrier). option_to_list (barrier_of c) ++ l) (barriers_append cs ds) ∙ sym (append_assoc (option_to_list (barrier_of c)) (barriers_of cs) (barriers_of ds))

module _ {U : Type 0} (usage : U → Usage) where
  abbrev pub made : List (Item U) → List Barrier
  made bs = barriers_of (changes_of usage bs)

  made_append : (xs bs : List (Item U)) → made (xs ++ bs) ≡ made xs ++ made bs
  made_append xs bs = ap barriers_of (map-append (change_of usage) xs bs) ∙ barriers_append (changes_of usage xs) (changes_of usage bs)

  -- what the first i items make is no more than what all make
  made_front : (bs : List (Item U)) (i : ℕ) → length (made (take i bs)) ≤ length (made bs)
  made_front bs i =
      omega (arith, ap (λ (l : List (Item U)). length (made l)) (take-append-drop i bs), ap length (made_append (take i bs) (drop i bs)), length-append (made (take i bs)) (made (drop i bs)))

  made_more : (bs : List (Item U)) (i : ℕ) (b : Item U) → i < length bs → b ≡ get_or bs i b → made (take (i + 1) bs) ≡ made (take i bs) ++ option_to_list (barrier_of (change_of usage b))
  made_more bs i b l e =
      ap made (take_more bs i b l) ∙ ap (λ (x : Item U). made (take i bs ++ x ∷ [])) (sym e) ∙ made_append (take i bs) (b ∷ [])
      ∙ ap (λ (l : List Barrier). made (take i bs) ++ l) (append-nil (option_to_list (barrier_of (change_of usage b))))

  -- after i items: the entries from the fill that was on are what those items make
  pub record Filled (was fill : ℕ) (xs first : List Barrier) (bs : List (Item U)) (i : ℕ) : Type 0 where
    pub from : fill ≡ was + length (made (take i bs))
    pub within : was < fill → fill ≤ length first
    pub long : length xs ≡ length first
    pub below : take was xs ≡ take was first
    pub made_so_far : between was fill xs ≡ made (take i bs)

  module _ (was fill : ℕ) (xs first : List Barrier) (bs : List (Item U)) (i : ℕ) (b : Item U) (l : i < length bs) (at : b ≡ get_or bs i b) (inv : Filled was fill xs first bs i) where
    pub turn_keeps : barrier_of (change_of usage b) ≡ None → Filled was fill xs first bs (i + 1)
    turn_keeps e =
        let m : made (take (i + 1) bs) ≡ made (take i bs) =
        made_more bs i b l at ∙ ap (λ (o : Option Barrier). made (take i bs) ++ option_to_list o) e ∙ append-nil (made (take i bs)) in
        record {
          from = inv.from ∙ ap (λ (l : List Barrier). was + length l) (sym m);
          within = inv.within;
          long = inv.long;
          below = inv.below;
          made_so_far = inv.made_so_far ∙ sym m;
        }

    pub more : (e : Barrier) → barrier_of (change_of usage b) ≡ Some e → made (take (i + 1) bs) ≡ made (take i bs) ++ e ∷ []
    more e s = made_more bs i b l at ∙ ap (λ (o : Option Barrier). made (take i bs) ++ option_to_list o) s

    pub turn_fills : (e : Barrier) (fill' : ℕ) (xs' : List Barrier) → barrier_of (change_of usage b) ≡ Some e → fill < length xs → xs' ≡ set xs fill e → fill' ≡ fill + 1 → Filled was fill' xs' first bs (i + 1)
    turn_fills e fill' xs' s h w f =
        let m = more e s in
        let ys = set xs fill e in
        let lw : was ≤ fill = omega (arith, inv.from) in
        let low : between was fill ys ≡ between was fill xs = between_is ys was fill ∙ ap (drop was) (take-set xs fill e) ∙ sym (between_is xs was fill) in
        record {
          from = omega (arith, inv.from, f, ap length m, length_push (made (take i bs)) e);
          within = λ _. omega (arith, f, h, inv.long);
          long = ap length w ∙ length-set xs fill e ∙ inv.long;
          below = ap (take was) w ∙ take-set-le was xs fill e lw ∙ inv.below;
          made_so_far = ap₂ (λ (n : ℕ) (zs : List Barrier). between was n zs) f w
              ∙ between_more ys was fill e lw (omega (arith, h, length-set xs fill e))
              ∙ ap (λ (d : Barrier). between was fill ys ++ d ∷ []) (get_or-set_same xs fill e e h)
              ∙ ap (λ (zs : List Barrier). zs ++ e ∷ []) (low ∙ inv.made_so_far)
              ∙ sym m;
        }

    -- no place for one more: then none for all
    pub turn_full : (e : Barrier) → barrier_of (change_of usage b) ≡ Some e → length xs ≤ fill → (0 < length (made bs)) × (length first < was + length (made bs))
    turn_full e s h =
        let n = ap length (more e s) ∙ length_push (made (take i bs)) e in
        (omega (arith, n, made_front bs (i + 1)), omega (arith, n, made_front bs (i + 1), inv.from, inv.long))
