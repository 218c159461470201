-- The meaning of a recorder, and what its calls do to it.
use Rattle.std.specs.Prelude.{◌≡◌, ℕ, ◌+◌, ◌<◌, ◌≤◌, min, true, List, [], ◌∷◌, ◌++◌, Some, None, Ok, Err, Option, Result}
use Rattle.command_list.specs.declared.fault.Fault.{Fault}
use Rattle.command_list.specs.Commands.{Command, size, readable}
use Rattle.command_list.specs.Seen.{IsFault}
use Rattle.device.specs.Devices.{Device, play, start}

pub record Meaning : Type 0 where
  pub device : Device
  -- how many bytes are left for records
  pub space : ℕ
  -- how many there were at the start
  pub made : ℕ
  -- the commands since it was last started anew, if the recorder can be asked for them
  pub shown : Option (List Command)

-- how many bytes the records of these commands take
abbrev pub sizes : List Command → ℕ
sizes [] = 0
sizes (c ∷ cs) = size c + sizes cs

-- commands are added, where commands are shown
abbrev pub shown_more : List Command → Option (List Command) → Option (List Command)
shown_more cs None = None
shown_more cs (Some bs) = Some (bs ++ cs)

-- exactly the commands cs were recorded on a recorder of meaning m, which now has meaning n
pub record Recorded (m : Meaning) (cs : List Command) (n : Meaning) : Type 0 where
  pub device : n.device ≡ play cs m.device
  pub least : m.space ≤ n.space + sizes cs
  pub most : n.space ≤ m.space
  pub made : n.made ≡ m.made
  pub shown : n.shown ≡ shown_more cs m.shown
  -- where commands are shown, the space falls by exactly the records' sizes
  pub exact : (bs : List Command) → m.shown ≡ Some bs → m.space ≡ n.space + sizes cs

-- a command was recorded: a list file can hold it, and its record fitted
pub record Taken (m : Meaning) (c : Command) (n : Meaning) : Type 0 where
  pub readable : readable c ≡ true
  pub fits : size c ≤ m.space
  pub recorded : Recorded m (c ∷ []) n

-- a command was refused with 10: no list file can hold it, or its record does not fit; the meaning
-- stays
pub record Refused (m : Meaning) (c : Command) (f : Fault) (n : Meaning) : Type 0 where
  pub fault : IsFault f 10 0
  pub why : readable c ≡ true → size c ≤ m.space → ⊥
  pub same : n ≡ m

-- a recorder is asked to record a command
abbrev pub Asked : Meaning → Command → Result Unit Fault → Meaning → Type 0
Asked m c (Ok u) n = Taken m c n
Asked m c (Err f) n = Refused m c f n

-- a recorder is asked to record all of these commands or none
abbrev pub Together : Meaning → List Command → Result Unit Fault → Meaning → Type 0
Together m cs (Ok u) n = Recorded m cs n
Together m cs (Err f) n = IsFault f 10 0 × (m.space < sizes cs) × (n ≡ m)

-- the commands are dropped, where commands are shown
abbrev pub cleared : Option (List Command) → Option (List Command)
cleared None = None
cleared (Some cs) = Some []

-- a recorder was started anew
pub record Anew (m n : Meaning) : Type 0 where
  pub device : n.device ≡ start
  pub space : n.space ≡ m.made
  pub made : n.made ≡ m.made
  pub shown : n.shown ≡ cleared m.shown

-- a recorder of meaning m under an allowance of most bytes, of which rest are left
abbrev pub rationed : ℕ → ℕ → Meaning → Meaning
rationed rest most m = record m { space = min rest m.space; made = min most m.made }
