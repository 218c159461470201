-- A list file is played on a recorder.
use Rattle.std.specs.Prelude.{◌≡◌, ℕ, ◌+◌, ◌<◌, List, length, None, Ok, Err, Result}
use Rattle.command_list.specs.declared.fault.Fault.{Fault}
use Rattle.command_list.specs.Commands.{Command}
use Rattle.command_list.specs.Files.{Verdict, accepted, refused, file}
use Rattle.command_list.specs.Seen.{IsFault}
use Rattle.device.specs.Devices.{start}
use Rattle.device.specs.Meaning.{Meaning, Recorded}

-- the file bs is accepted; its k commands were recorded on a recorder of meaning m, now n
pub record Whole (m : Meaning) (bs : List ℕ) (k : ℕ) (n : Meaning) : Type 0 where
  pub commands : List Command
  pub says : file bs ≡ accepted commands
  pub many : length commands ≡ k
  pub recorded : Recorded m commands n

-- an empty board of n bytes
abbrev pub blank : ℕ → Meaning
blank n = record { device = start; space = n; made = n; shown = None }

-- nothing but the file bs was played on an empty board of as many bytes
abbrev pub Filled : List ℕ → Meaning → Type 0
Filled bs n = (k : ℕ) × Whole (blank (length bs)) bs k n

-- f is how the file breaks a rule, or its records do not fit
abbrev pub Unplayed : Verdict → Meaning → List ℕ → Fault → Type 0
Unplayed (accepted cs) m bs f = IsFault f 10 0 × (m.space + 1 < length bs)
Unplayed (refused r p) m bs f = IsFault f r p

abbrev pub Played : Meaning → List ℕ → Result ℕ Fault → Meaning → Type 0
Played m bs (Ok k) n = Whole m bs k n
Played m bs (Err f) n = Unplayed (file bs) m bs f × (n ≡ m)
