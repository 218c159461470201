-- The commands that set the root constants of a slot, and those of the dirty slots of a table.
use Rattle.std.specs.Prelude.{◌≡◌, ℕ, zero, suc, ◌+◌, Bool, cond, List, [], ◌∷◌, ◌++◌, Some, Option}
use Rattle.command_list.specs.declared.command.Half.{Half}
use Rattle.command_list.specs.Commands.{Command, SetRoot32BitConstant}

-- root constants of a slot, lowest word first
abbrev pub word_commands : Half → ℕ → ℕ → List ℕ → List Command
word_commands h k w [] = []
word_commands h k w (v ∷ vs) = SetRoot32BitConstant h k w v ∷ word_commands h k (w + 1) vs

-- the root constants from word w on are these
abbrev pub Begins : (ℕ → Option ℕ) → ℕ → List ℕ → Type 0
Begins f w [] = Unit {0}
Begins f w (v ∷ vs) = (f w ≡ Some v) × Begins f (w + 1) vs

-- the commands of those of the slots k to k + n - 1 that are dirty, lowest slot first
unfoldable pub gathered : (ℕ → Bool) → (ℕ → List Command) → ℕ → ℕ → List Command
gathered t f k zero = []
gathered t f k (suc n) = cond (t k) (f k) [] ++ gathered t f (k + 1) n
