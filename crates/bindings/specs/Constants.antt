-- The three words that a shader finds the numbers of its call in.
use Rattle.std.specs.Prelude.{ℕ, suc, ◌-◌, ◌^◌, cond, List, [], ◌∷◌, ℤ, pos, negsuc, nat_lt}
use Rattle.bindings.specs.declared.constants.SpecialConstants.{SpecialConstants}

-- the signed number of 32 bits: below 2^31 the number itself, else it less 2^32
abbrev pub signed32 : ℕ → ℤ
signed32 n = cond (nat_lt n (2 ^ 31)) (pos n) (negsuc (2 ^ 32 - suc n))

-- the 32 bits of a signed number
abbrev pub bits32 : ℤ → ℕ
bits32 (pos n) = n
bits32 (negsuc n) = 2 ^ 32 - suc n

-- the constants as words
abbrev pub words_of : SpecialConstants → List ℕ
words_of s = bits32 s.first_vertex_or_x ∷ s.first_instance_or_y ∷ s.unused_or_z ∷ []

-- the constants whose words are these
abbrev pub constants : ℕ → ℕ → ℕ → SpecialConstants
constants x y z =
    record { first_vertex_or_x = signed32 x; first_instance_or_y = y; unused_or_z = z }
