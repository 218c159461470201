-- Numbers as bytes, the highest byte first, and rows of fields.
use Rattle.std.specs.Prelude.{ℕ, zero, suc, ◌+◌, ◌/◌, ◌%◌, ◌^◌, ◌<◌, List, [], ◌∷◌, ◌++◌, take, drop}
use Rattle.std.specs.Int.Digits.{number_from_digits}

-- the last w bytes of v
abbrev pub be : ℕ → ℕ → List ℕ
be zero v = []
be (suc w) v = (v / 256 ^ w % 256) ∷ be w v

-- a field is its width in bytes and its value
pub record Field : Type 0 where
  pub width : ℕ
  pub value : ℕ

abbrev pub field : ℕ → ℕ → Field
field w v = record { width = w; value = v }

-- a row of fields as bytes
abbrev pub bytes : List Field → List ℕ
bytes [] = []
bytes (f ∷ fs) = be f.width f.value ++ bytes fs

abbrev pub widths : List Field → List ℕ
widths [] = []
widths (f ∷ fs) = f.width ∷ widths fs

abbrev pub values : List Field → List ℕ
values [] = []
values (f ∷ fs) = f.value ∷ values fs

-- how many bytes a row takes
abbrev pub total : List Field → ℕ
total [] = 0
total (f ∷ fs) = f.width + total fs

-- each value fits its width
abbrev pub Fit : List Field → Type 0
Fit [] = Unit {0}
Fit (f ∷ fs) = (f.value < 256 ^ f.width) × Fit fs

-- the number that w bytes from a place on write
unfoldable pub number_at : ℕ → ℕ → List ℕ → ℕ
number_at w at bs = number_from_digits 256 (take w (drop at bs))

-- the numbers of these widths, one behind the other from a place on
abbrev pub numbers : List ℕ → ℕ → List ℕ → List ℕ
numbers [] at bs = []
numbers (w ∷ ws) at bs = number_at w at bs ∷ numbers ws (at + w) bs
