-- What a call does to an encoder's own state and to its recorder.
use Rattle.std.specs.Prelude.{◌≡◌, true, false, List, Ok, Err, Option, Result, nat_le}
use Rattle.command_list.specs.declared.fault.Fault.{Fault}
use Rattle.command_list.specs.Commands.{Command}
use Rattle.command_list.specs.Refusals.{Why, why_of}
use Rattle.device.specs.Meaning.{Meaning, Recorded, sizes}
use Rattle.encoder.specs.Scenes.{Answer, taken, refused, is_taken, judged}

abbrev pub answered : Result Unit Fault → Answer
answered (Ok u) = taken
answered (Err f) = refused (why_of f)

-- a call with these checks and records, from the state a to b and the meaning m to n: a refused one
-- left all as it was, a taken one left the next state, and its records were recorded
pub record Handled {X : Type 0} (asked : Option Why) (records : List Command) (next a : X)
    (m : Meaning) (r : Result Unit Fault) (b : X) (n : Meaning) : Type 0 where
  pub answer : answered r ≡ judged asked (nat_le (sizes records) m.space)
  pub refused : is_taken (answered r) ≡ false → (b ≡ a) × (n ≡ m)
  pub state : is_taken (answered r) ≡ true → b ≡ next
  pub recorded : is_taken (answered r) ≡ true → Recorded m records n
