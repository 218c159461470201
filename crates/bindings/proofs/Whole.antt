-- Whole numbers as single floats.
use Rattle.std.proofs.Common.{ℕ, ◌≤◌, false, not, T, pos, sym, subst, arith, le→leb}
use lib.Ieee.{Float, nan, inf, fin, Format, binary32, is_nan, in_unsigned, in_float, of_int, to_bits, of_bits}
use lib.Ieee.Back.{unsigned_back, round_whole}
use lib.Ieee.Bits.{of_bits-to_bits}
use lib.Ieee.Fits.{of_int-fits}
use lib.Ieee.Exact.{HasValue}

-- what a cast to a whole number takes is a number
number : (f : Format) (w : ℕ) (x : Float) → T (in_unsigned f w x) → T (not (is_nan x))
unfolding is_nan in_unsigned
number f w nan t = t
number f w (inf s) t = tt
number f w (fin s m e) t = tt

-- a whole number that a single holds is one
pub single_number : (n : ℕ) → n ≤ 16777216 → T (not (is_nan (of_int binary32 (pos n))))
unfolding in_float
single_number n h = number binary32 64 (of_int binary32 (pos n)) (unsigned_back binary32 64 n (le→leb n 16777216 h) (omega arith)).0

-- the pattern of a whole number stands for that number exactly
pub single_exact : (n : ℕ) → n ≤ 16777216 → HasValue (of_bits binary32 (to_bits binary32 (of_int binary32 (pos n)))) false n 1
unfolding of_int
single_exact n h =
    subst (λ (x : Float). HasValue x false n 1) (sym (of_bits-to_bits binary32 (of_int binary32 (pos n)) (of_int-fits binary32 (pos n))))
    (round_whole binary32 false n h)
