-- Parts of layouts, and strides, put in one at a time.
use Rattle.std.proofs.Common.{◌≡◌, ℕ, ◌+◌, ◌<◌, ◌≤◌, ◌&&◌, Bool, true, false, List, length, drop, get_or, slice_set, Option, Some, None, refl, ap, ◌∙◌}
use Rattle.std.proofs.lemmas.List.{drop_all, drop_more}
use Rattle.scripts.specs.declared.definitions.Part.{Part}
use Rattle.scripts.specs.declared.definitions.Stride.{Stride}
use Rattle.scripts.specs.declared.line.LayoutParts.{LayoutParts}
use Rattle.scripts.specs.Words.{◌>>=◌}
use Rattle.scripts.specs.Definitions.{place, place_all, put_strides}

-- one stride more
pub put_more : (strides : List (Option ℕ)) (all : List Stride) (i : ℕ) (d : Stride) → i < length all
    → put_strides strides (drop i all)
    ≡ put_strides (slice_set strides (get_or all i d).slot (Some (get_or all i d).bytes)) (drop (i + 1) all)
unfolding put_strides
put_more strides all i d h = rw (drop_more all i d h) refl

-- none is left
pub all_put : (strides : List (Option ℕ)) (all : List Stride) (i : ℕ) → length all ≤ i
    → put_strides strides (drop i all) ≡ strides
unfolding put_strides
all_put strides all i h = rw (drop_all i all h) refl

-- whether layouts have a place for these parts and for one more
abbrev pub with : Bool → Option (LayoutParts × Bool) → Option (LayoutParts × Bool)
with b o = o >>= λ p. Some (p.0, b && p.1)

module _ (from now next : LayoutParts) (all : List Part) (i : ℕ) (in_range : Bool)
    (so_far : place_all from all ≡ with in_range (place_all now (drop i all))) where
  pub all_placed : length all ≤ i → place_all from all ≡ Some (now, in_range)
  unfolding place_all
  all_placed h = so_far ∙ rw (drop_all i all h) (ap (λ b. Some (now, b)) (go in_range))
    where
      go : (b : Bool) → (b && true) ≡ b
      go true = refl
      go false = refl

  module _ (d : Part) (within : i < length all) where
    pub place_fails : place now (get_or all i d) ≡ None → place_all from all ≡ None
    unfolding place_all
    place_fails h = so_far ∙ rw (drop_more all i d within) (rw h refl)

    pub place_more : (b : Bool) → place now (get_or all i d) ≡ Some (next, b)
        → place_all from all ≡ with (in_range && b) (place_all next (drop (i + 1) all))
    unfolding place_all
    place_more b h = so_far ∙ rw (drop_more all i d within) (rw h (go (place_all next (drop (i + 1) all))))
      where
        assoc : (x y z : Bool) → (x && (y && z)) ≡ ((x && y) && z)
        assoc true y z = refl
        assoc false y z = refl

        go : (o : Option (LayoutParts × Bool)) → with in_range (with b o) ≡ with (in_range && b) o
        go None = refl
        go (Some p) = ap (λ c. Some (p.0, c)) (assoc in_range b p.1)
