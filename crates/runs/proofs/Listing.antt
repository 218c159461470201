-- The list that a run leaves.
use Rattle.std.proofs.Common.{◌≡◌, Bool, true, false, cond, List, [], ◌∷◌, ◌++◌, Some, refl, ap, ◌∙◌}
use Rattle.command_list.specs.Commands.{Command}
use Rattle.device.specs.Meaning.{Meaning, shown_more, cleared}
use Rattle.encoder.specs.Scenes.{Call, begin_encoding, end_encoding, discard_encoding, opening, ending, quiet, set, drawing, records, start_of, is_taken, Scene, Does}
use Rattle.runs.specs.Marks.{Moment, Run, account_at}
use Rattle.runs.specs.Shown.{left_by}
use Rattle.runs.specs.Encoded.{listed_by, recorded}

pub starts : (c : Call) (m : Meaning) (cs : List Command) → m.shown ≡ Some cs → (start_of c m).shown ≡ Some (left_by c cs)
starts begin_encoding m cs e = ap cleared e
starts end_encoding m cs e = e
starts discard_encoding m cs e = e
starts (opening o) m cs e = e
starts (ending h) m cs e = e
starts (quiet q) m cs e = e
starts (set c) m cs e = e
starts (drawing c) m cs e = e

shown_by : (m : Moment) (cs : List Command) → Does m.before m.call m.answer m.after → m.before.meaning.shown ≡ Some cs → m.after.meaning.shown ≡ Some (listed_by m cs)
shown_by m cs d e = by (is_taken m.answer) refl
  where
    more : List Command
    more = records m.before.own m.call (account_at m)

    by : (b : Bool) → is_taken m.answer ≡ b → m.after.meaning.shown ≡ Some (cond b (left_by m.call cs ++ more) cs)
    by true t = (d.recorded t).shown ∙ ap (shown_more more) (starts m.call m.before.meaning cs e)
    by false t = ap (λ (s : Scene). s.meaning.shown) (d.refused t) ∙ e

pub run_shows : (run : List Moment) (s t : Scene) → Run s run t → (cs : List Command) → s.meaning.shown ≡ Some cs → t.meaning.shown ≡ Some (recorded run cs)
run_shows [] s t r cs e = ap (λ (x : Scene). x.meaning.shown) r ∙ e
run_shows (m ∷ ms) s t (same, does, rest) cs e =
    run_shows ms m.after t rest (listed_by m cs) (shown_by m cs does (ap (λ (x : Scene). x.meaning.shown) same ∙ e))

same_start : (c : Call) (m : Meaning) → (start_of c m).made ≡ m.made
same_start begin_encoding m = refl
same_start end_encoding m = refl
same_start discard_encoding m = refl
same_start (opening o) m = refl
same_start (ending h) m = refl
same_start (quiet q) m = refl
same_start (set c) m = refl
same_start (drawing c) m = refl

made_by : (m : Moment) → Does m.before m.call m.answer m.after → m.after.meaning.made ≡ m.before.meaning.made
made_by m d = by (is_taken m.answer) refl
  where
    by : (b : Bool) → is_taken m.answer ≡ b → m.after.meaning.made ≡ m.before.meaning.made
    by true t = (d.recorded t).made ∙ same_start m.call m.before.meaning
    by false t = ap (λ (s : Scene). s.meaning.made) (d.refused t)

pub run_made : (run : List Moment) (s t : Scene) → Run s run t → t.meaning.made ≡ s.meaning.made
run_made [] s t r = ap (λ (x : Scene). x.meaning.made) r
run_made (m ∷ ms) s t (same, does, rest) = run_made ms m.after t rest ∙ made_by m does ∙ ap (λ (x : Scene). x.meaning.made) same
