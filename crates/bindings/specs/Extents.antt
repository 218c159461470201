-- Widths and heights of targets, and the numbers of a viewport.
use Rattle.std.specs.Prelude.{◌≡◌, ℕ, ◌≤◌, false, List, [], ◌∷◌, pos, from_bits, to_bits}
use Rattle.std.specs.Float.Ieee.{of_int}
use Rattle.std.specs.Float.{binary32}
use Rattle.std.specs.Float.Ieee.Exact.{HasValue}

-- 1 to 16384
abbrev pub InExtent : ℕ → Type 0
InExtent n = (1 ≤ n) × (n ≤ 16384)

-- the pattern of the single float for a whole number
unfoldable pub single : ℕ → ℕ
single n = to_bits binary32 (of_int binary32 (pos n))

-- a pattern is that of a single float, and the float is exactly this whole number
pub record IsSingle (n bits : ℕ) : Type 0 where
  pub is : bits ≡ single n
  pub exact : HasValue (from_bits binary32 bits) false n 1

-- a viewport over a whole target: its corner, its width and height, and the depths 0 to 1
abbrev pub viewport : ℕ → ℕ → List ℕ
viewport w h = single 0 ∷ single 0 ∷ single w ∷ single h ∷ single 0 ∷ single 1 ∷ []
