-- A number as the set of the places of its binary digits.
use Rattle.std.specs.Prelude.{ℕ, Bool, ◌==◌}
use Rattle.std.specs.Int.{bit_at}

-- whether the digit at a place is set
unfoldable pub bit : ℕ → ℕ → Bool
bit m k = bit_at m k == 1
