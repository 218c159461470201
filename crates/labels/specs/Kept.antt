-- The units that a label's value holds.
use Rattle.std.specs.Prelude.{ℕ, List, take}
use Rattle.labels.specs.declared.label.Label.{Label}

-- the units in use, the final 0 among them
abbrev pub units_of : Label → List ℕ
units_of l = take l.len l.units
