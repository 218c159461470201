-- What a run leaves in its recorder.
use Rattle.std.specs.Prelude.{◌≡◌, ℕ, cond, List, [], ◌∷◌, ◌++◌, Some}
use Rattle.command_list.specs.Commands.{Command}
use Rattle.device.specs.Meaning.{Meaning}
use Rattle.encoder.specs.Scenes.{Call, begin_encoding, is_taken, Scene}
use Rattle.runs.specs.declared.call.Call.{Call as Offered}
use Rattle.runs.specs.declared.call.Answer.{Answer}
use Rattle.runs.specs.Marks.{Moment, records_at}
use Rattle.runs.specs.Shown.{left_by}
use Rattle.runs.specs.Driven.{Driven}

-- the list behind a call: an accepted one adds its commands
abbrev pub listed_by : Moment → List Command → List Command
listed_by m cs = cond (is_taken m.answer) (left_by m.call cs ++ records_at m) cs

-- the list behind the calls of a run, where there were these commands before: those of the accepted calls since the
-- latest list was begun
abbrev pub recorded : List Moment → List Command → List Command
recorded [] cs = cs
recorded (m ∷ ms) cs = recorded ms (listed_by m cs)

-- An encoder that stood at s was driven through the calls, and its recorder then means n. Where the recorder shows its
-- commands, those of the accepted calls stand there, since the latest list was begun.
pub record Encoded (s : Scene) (len fill : ℕ) (calls : List Offered) (before after : List Answer) (n : Meaning) : Type 0 where
  pub scene : Scene
  pub driven : Driven s len fill calls before after scene
  pub left : n ≡ scene.meaning
  pub made : n.made ≡ s.meaning.made
  pub shows : (cs : List Command) → s.meaning.shown ≡ Some cs → n.shown ≡ Some (recorded driven.run cs)
