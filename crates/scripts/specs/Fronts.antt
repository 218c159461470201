-- What a row of words says, one thing behind the other.
use Rattle.std.specs.Prelude.{ℕ, suc, zero, ◌-◌, List, [], ◌∷◌, Option, Some}
use Rattle.scripts.specs.Words.{Word, ◌>>=◌}

-- what words begin with, and how many words that is, if they say one
abbrev pub Front : Type 0 → Type 0
Front T = List Word → Option (T × ℕ)

-- all that words say, but for so many words at their head
unfoldable pub behind : {T : Type 0} → ℕ → Front T → List Word → Option (List T)
behind n front [] = Some []
behind (suc n) front (w ∷ ws) = behind n front ws
behind zero front (w ∷ ws) = do
  first ← front (w ∷ ws)
  others ← behind (first.1 - 1) front ws
  Some (first.0 ∷ others)

-- all that words say
abbrev pub all : {T : Type 0} → Front T → List Word → Option (List T)
all = behind 0
