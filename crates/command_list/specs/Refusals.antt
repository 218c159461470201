-- Why a call is refused: the checks that it makes, in their order, and the first that fails.
use Rattle.std.specs.Prelude.{◌≡◌, ℕ, ◌+◌, ◌<◌, Bool, true, false, cond, List, [], ◌∷◌, length, Some, None, Ok, Err, Option, Result, slice_index_or}
use Rattle.command_list.specs.declared.fault.Fault.{Fault}
use Rattle.command_list.specs.Seen.{number_of}

-- a refusal: its number, and the place that the number speaks of
pub record Why : Type 0 where
  pub number : ℕ
  pub place : ℕ

abbrev pub fault : ℕ → ℕ → Why
fault n p = record { number = n; place = p }

-- what a fault says
abbrev pub why_of : Fault → Why
why_of f = fault (number_of f.number) f.place

-- the refusal of an answer, if it is one
abbrev pub fault_of : {X : Type 0} → Result X Fault → Option Why
fault_of (Ok x) = None
fault_of (Err f) = Some (why_of f)

-- a check: it fails with this refusal unless the test holds
abbrev pub unless : Bool → Why → Option Why
unless true w = None
unless false w = Some w

-- the first failure of two checks
abbrev pub before : Option Why → Option Why → Option Why
before None b = b
before (Some w) b = Some w

-- a check of each item: it fails at the index of the first item that does not pass
abbrev pub fault_at : ℕ → Option ℕ → Option Why
fault_at n None = None
fault_at n (Some i) = Some (fault n i)

-- the index of the first item that fails a test, counted from i on
abbrev pub first_from : {X : Type 0} → ℕ → (X → Bool) → List X → Option ℕ
first_from i good [] = None
first_from i good (x ∷ xs) = cond (good x) (first_from (i + 1) good xs) (Some i)

-- every item passes a test
abbrev pub AllPass : {X : Type 0} → (X → Bool) → List X → Type 0
AllPass good xs = (k : ℕ) (d : _) → k < length xs → good (slice_index_or xs k d) ≡ true

-- the item at i fails a test, and no item before it does
pub record First {X : Type 0} (good : X → Bool) (xs : List X) (i : ℕ) : Type 0 where
  pub within : i < length xs
  pub fails : (d : X) → good (slice_index_or xs i d) ≡ false
  pub earlier : (k : ℕ) (d : X) → k < i → good (slice_index_or xs k d) ≡ true

-- what the index of the first failing item, or none, says of the items
abbrev pub FirstOf : {X : Type 0} → (X → Bool) → List X → Option ℕ → Type 0
FirstOf good xs None = AllPass good xs
FirstOf good xs (Some i) = First good xs i
