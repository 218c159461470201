-- A run of an encoder through given calls.
use Rattle.std.specs.Prelude.{◌≡◌, ℕ, List, [], ◌∷◌, ◌++◌}
use Rattle.encoder.specs.Scenes.{Scene}
use Rattle.runs.specs.declared.call.Call.{Call}
use Rattle.runs.specs.declared.call.Answer.{Answer}
use Rattle.runs.specs.Marks.{Moment, Run, Keeps}
use Rattle.runs.specs.Offering.{call_of, told}
use Rattle.runs.specs.Shown.{EachShows}

-- the moments that an offered call came to, with its answer: one
abbrev pub Made : ℕ → ℕ → Call → Answer → List Moment → Type 0
Made len fill c a ms = (m : Moment) × (ms ≡ m ∷ []) × (m.call ≡ call_of len fill c) × (m.answer ≡ told a)

-- the calls, as many as there are places for answers, came to these moments, in their order, and left their answers in
-- the places; the other places are as before
abbrev pub AllMade : ℕ → ℕ → List Call → List Answer → List Answer → List Moment → Type 0
AllMade len fill (c ∷ cs) (b ∷ before) (a ∷ after) run =
    (ms : List Moment) × (rest : List Moment) × (run ≡ ms ++ rest) × Made len fill c a ms
    × AllMade len fill cs before after rest
AllMade len fill _ before after run = (run ≡ []) × (after ≡ before)

-- The calls were made of an encoder that stood at s, with a scratch of so many entries and this fill. They led to t.
pub record Driven (s : Scene) (len fill : ℕ) (calls : List Call) (before after : List Answer) (t : Scene) : Type 0 where
  pub run : List Moment
  pub runs : Run s run t
  pub made : AllMade len fill calls before after run
  pub keeps : Keeps run
  pub shows : EachShows run
