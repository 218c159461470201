-- A label: the UTF-16 units of what its bytes encode, and a final 0.
use Rattle.std.specs.Prelude.{◌≡◌, ℕ, ◌<◌, ◌≤◌, true, ◌⊎◌, List, [], ◌∷◌, ◌++◌, length}
use Rattle.std.specs.Str.{chars}
use Rattle.command_list.specs.declared.fault.Fault.{Fault}
use Rattle.command_list.specs.Commands.{BeginEvent, readable}
use Rattle.command_list.specs.Seen.{IsFault}
use Rattle.labels.specs.Unicode.{utf16s, Encodes, WellFormed, Tabled}

-- bytes are UTF-8 for some scalar values, and the units are UTF-16 for the same ones,
-- with a 0 behind them
abbrev pub IsLabel : List ℕ → List ℕ → Type 0
IsLabel bs us = (cs : List ℕ) × Encodes cs bs × (us ≡ utf16s cs ++ 0 ∷ [])

-- the units of a label's bytes
abbrev pub label_units : List ℕ → List ℕ
label_units bs = utf16s (chars bs) ++ 0 ∷ []

-- how many units a label has at most, its final 0 among them
abbrev pub most : ℕ
most = 257

-- units that any recorder with enough space takes: a final 0,
-- and a record that two bytes of length can measure
abbrev pub Recordable : List ℕ → Type 0
Recordable us = (readable (BeginEvent us) ≡ true) × (0 < length us) × (length us ≤ most)

-- bytes that make a label, and its units: the only ones,
-- and the bytes are well-formed by the standard's table too
pub record Labelled (bs us : List ℕ) : Type 0 where
  pub short : length bs ≤ 256
  pub formed : WellFormed bs
  pub tabled : Tabled bs
  pub is : IsLabel bs us
  pub only : (vs : List ℕ) → IsLabel bs vs → vs ≡ us
  pub units : us ≡ label_units bs

-- bytes that make none: more than 256, or not UTF-8
abbrev pub Refused : List ℕ → Fault → Type 0
Refused bs f =
    (IsFault f 1 0 × (256 < length bs))
    ⊎ (IsFault f 2 0 × (length bs ≤ 256) × (WellFormed bs → ⊥) × (Tabled bs → ⊥))
