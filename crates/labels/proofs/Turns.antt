-- A turn of the loop over a text's units.
use Rattle.std.proofs.Common.{◌≡◌, ℕ, ◌+◌, ◌<◌, ◌≤◌, ◌⊎◌, List, [], ◌∷◌, ◌++◌, length, take, set, IsUtf8, sym, ap, ◌∙◌, subst, ap₂, inl, inr, append_assoc, arith, length-append}
use lib.Utf8.{encode}
use Rattle.std.specs.Str.{chars}
use Rattle.std.proofs.lemmas.List.{append-nil, nil_from_length, take_more_set}
use Rattle.std.proofs.lemmas.Str.{chars_past_char, IsUtf8-past_char, chars-nil}
use Rattle.labels.specs.Unicode.{utf16, utf16s}

-- what one call of the iterator does: hs, bs before and ht, bt after are the unit that is held back and the text that is left
abbrev pub Step : List ℕ → List ℕ → List ℕ → List ℕ → ℕ → Type 0
Step hs bs ht bt x =
    ((hs ≡ x ∷ []) × (ht ≡ []) × (bt ≡ bs)) ⊎ ((hs ≡ []) × ((c : ℕ) × (bs ≡ encode c ++ bt) × (utf16 c ≡ x ∷ ht)))

-- the units that are to come
abbrev pub coming : List ℕ → List ℕ → List ℕ
coming h b = h ++ utf16s (chars b)

pub coming_next : (hs bs ht bt : List ℕ) (x : ℕ) → IsUtf8 bs → Step hs bs ht bt x → (coming hs bs ≡ x ∷ coming ht bt) × IsUtf8 bt
coming_next hs bs ht bt x u (inl (p, q, r)) = (
  ap₂ coming p (sym r) ∙ ap (λ (h : List ℕ). x ∷ (h ++ utf16s (chars bt))) (sym q),
  subst IsUtf8 (sym r) u,
)
coming_next hs bs ht bt x u (inr (p, (c, e, f))) = (
  ap (λ (h : List ℕ). coming h bs) p ∙ ap utf16s (chars_past_char bs bt c u e) ∙ ap (λ (l : List ℕ). l ++ utf16s (chars bt)) f,
  IsUtf8-past_char bs bt c u e,
)

pub all_more : (whole ys hs bs ht bt : List ℕ) (x : ℕ) → whole ≡ ys ++ coming hs bs → coming hs bs ≡ x ∷ coming ht bt → whole ≡ (ys ++ x ∷ []) ++ coming ht bt
all_more whole ys hs bs ht bt x e s = e ∙ ap (λ (l : List ℕ). ys ++ l) s ∙ sym (append_assoc ys (x ∷ []) (coming ht bt))

pub unit_room : (whole ys rest : List ℕ) → whole ≡ ys ++ rest → (x : ℕ) (rest' : List ℕ) → rest ≡ x ∷ rest' → length ys + 1 ≤ length whole
unit_room whole ys rest e x rest' s = omega (arith, ap length e, length-append ys rest, ap length s)

pub none_coming : (whole ys hs bs : List ℕ) → whole ≡ ys ++ coming hs bs → hs ≡ [] → length bs ≡ 0 → ys ≡ whole
none_coming whole ys hs bs e p z =
    sym (append-nil ys)
    ∙ ap (λ (l : List ℕ). ys ++ l) (sym (ap₂ coming p (nil_from_length bs z) ∙ ap utf16s chars-nil)) ∙ sym e

-- a unit put behind those at the front
pub front_more : (us ys : List ℕ) (n x : ℕ) → n < length us → take n us ≡ ys → take (n + 1) (set us n x) ≡ ys ++ x ∷ []
front_more us ys n x h e = take_more_set us n x h ∙ ap (λ (l : List ℕ). l ++ x ∷ []) e
