-- UTF-8 as a test that computes.
use Rattle.std.specs.Prelude.{◌≡◌, Bool, true, false, ◌&&◌, ◌||◌, List, [], ◌∷◌, ℕ, ◌==◌, nat_le, nat_lt, Decides}
use Rattle.std.specs.Str.{chars}
use Rattle.labels.specs.Unicode.{utf8s, WellFormed}

-- the same numbers in the same order
abbrev pub same_numbers : List ℕ → List ℕ → Bool
same_numbers [] [] = true
same_numbers (x ∷ xs) (y ∷ ys) = x == y && same_numbers xs ys
same_numbers _ _ = false

abbrev pub are_scalars : List ℕ → Bool
are_scalars [] = true
are_scalars (c ∷ cs) = (nat_lt c 0xD800 || (nat_le 0xE000 c && nat_lt c 0x110000)) && are_scalars cs

-- bytes are UTF-8: they decode to scalar values whose UTF-8 they are
abbrev pub is_utf8 : List ℕ → Bool
is_utf8 bs = are_scalars (chars bs) && same_numbers (utf8s (chars bs)) bs

-- the test holds exactly of the byte sequences that Unicode calls well-formed
abbrev pub Utf8IsUnicodes : Type 0
Utf8IsUnicodes = (bs : List ℕ) → Decides (is_utf8 bs) (WellFormed bs)
