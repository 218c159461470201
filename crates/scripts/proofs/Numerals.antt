-- Numerals of a radix: std's relation, and the definition of words.
use Rattle.std.proofs.Common.{◌≡◌, ℕ, ◌^◌, Bool, true, false, List, [], ◌∷◌, option_and_then, take, drop, codes, Option, Some, None, nat_lt, arith, refl}
use Rattle.std.proofs.lemmas.Grind.{common_steps}
use Rattle.std.specs.List.{list_all}
use Rattle.std.specs.Char.{is_digit}
use Rattle.std.specs.Str.Parse.{AllDigits, digits_value}
use Rattle.scripts.specs.Words.{is_numeral, fitting, numeral, number, IsRead}
use Rattle.std.specs.Str.{bytes_eq}

pub all_digits : (radix : ℕ) (ds : List ℕ) → list_all (λ c. is_digit c radix) ds ≡ true → AllDigits radix ds
all_digits radix [] h = tt
all_digits radix (c ∷ cs) h = grind (arith, common_steps, all_digits radix cs)

pub of_digits : (radix : ℕ) (ds : List ℕ) → AllDigits radix ds → list_all (λ c. is_digit c radix) ds ≡ true
of_digits radix [] h = refl
of_digits radix (c ∷ cs) h = grind (arith, common_steps, h.0, of_digits radix cs h.1)

pub read_digits : (radix : ℕ) (ds : List ℕ) (r : Option ℕ) → IsRead radix ds r
    → r ≡ numeral radix 64 ds
read_digits radix ds None h = grind (arith, common_steps, all_digits radix ds, h)
read_digits radix ds (Some x) h = grind (arith, common_steps, of_digits radix ds, h)

-- a number of 32 bits is one of 64 bits that is below 2 ^ 32
narrow_fitting : (test : Bool) (n : ℕ) → fitting test 32 n ≡ option_and_then (fitting true 32) (fitting test 64 n)
narrow_fitting true n = go (nat_lt n (2 ^ 64)) refl
  where
    go : (b : Bool) → nat_lt n (2 ^ 64) ≡ b → fitting true 32 n ≡ option_and_then (fitting true 32) (fitting true 64 n)
    go true e = rw e refl
    go false e = grind (arith, common_steps, e)
narrow_fitting false n = refl

pub narrow : (w : List ℕ) → number 32 w ≡ option_and_then (fitting true 32) (number 64 w)
unfolding number
narrow w = go (bytes_eq (take 2 w) (codes "0x")) refl
  where
    go : (b : Bool) → bytes_eq (take 2 w) (codes "0x") ≡ b → number 32 w ≡ option_and_then (fitting true 32) (number 64 w)
    go true e = rw e (narrow_fitting (is_numeral 16 (drop 2 w)) (digits_value 16 (drop 2 w)))
    go false e = rw e (narrow_fitting (is_numeral 10 w) (digits_value 10 w))
