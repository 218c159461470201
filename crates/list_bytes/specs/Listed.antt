-- The meaning of list bytes: that of the list file that they begin with.
use Rattle.std.specs.Prelude.{◌≡◌, ℕ, ◌-◌, ◌≤◌, Bool, List, [], length, take, Some}
use Rattle.command_list.specs.Commands.{Command}
use Rattle.command_list.specs.Files.{Verdict, accepted, refused, file, is_accepted}
use Rattle.device.specs.Devices.{play, start}
use Rattle.device.specs.Meaning.{Meaning}

-- the first n bytes are a list file that the reader accepts
abbrev pub is_whole : List ℕ → ℕ → Bool
is_whole bs n = is_accepted (file (take n bs))

abbrev pub commands_in : Verdict → List Command
commands_in (accepted cs) = cs
commands_in (refused r p) = []

-- the meaning of bytes of which the first n are a list file
abbrev pub listed : List ℕ → ℕ → Meaning
listed bs n = record {
  device = play (commands_in (file (take n bs))) start;
  space = length bs - n;
  made = length bs - 1;
  shown = Some (commands_in (file (take n bs)));
}

-- a list can be kept in n bytes
abbrev pub HoldsList : ℕ → Type 0
HoldsList n = (1 ≤ n) × (n ≤ 65536)

-- an empty list over n bytes
pub record Opened (n : ℕ) (m : Meaning) : Type 0 where
  pub device : m.device ≡ start
  pub space : m.space ≡ n - 1
  pub made : m.made ≡ n - 1
  pub shown : m.shown ≡ Some []
