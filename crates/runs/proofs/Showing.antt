-- A recorder that shows its commands: the device is what they play to.
use Rattle.std.proofs.Common.{◌≡◌, ◌+◌, true, List, [], ◌∷◌, ◌++◌, Some, None, Option, sym, ap, ◌∙◌, subst, ⊎_elim}
use Rattle.std.proofs.lemmas.Bool.{false≢true, cases_Bool}
use Rattle.std.proofs.lemmas.Option.{none-some, same_Some}
use Rattle.command_list.specs.Commands.{Command}
use Rattle.device.specs.Devices.{play, start}
use Rattle.device.specs.Meaning.{Meaning, Recorded, shown_more, cleared}
use Rattle.device.proofs.Runs.{play_append}
use Rattle.passes.specs.Calls.{DrawCall}
use Rattle.encoder.specs.Scenes.{Call, begin_encoding, end_encoding, discard_encoding, opening, ending, quiet, set, drawing, Stage, idle, recording, in_pass, offers, next, start_of, anew, is_taken, Scene, Does}
use Rattle.encoder.proofs.Answered.{took}
use Rattle.runs.specs.Marks.{Moment, Run, records_at, but_last, found_by, device_before}
use Rattle.runs.specs.Shown.{EveryRunShows}
use Rattle.runs.proofs.Listing.{starts}
use Rattle.runs.proofs.Law.{run_split}

-- the device is what the shown commands play to
abbrev IsTied : Meaning → Type 0
IsTied m = (cs : List Command) → m.shown ≡ Some cs → m.device ≡ play cs start

-- from the beginning of a list on
abbrev Tied : Stage → Meaning → Type 0
Tied idle m = Unit {0}
Tied recording m = IsTied m
Tied (in_pass a) m = IsTied m

tied_more : (m n : Meaning) (rs : List Command) → Recorded m rs n → IsTied m → IsTied n
tied_more m n rs r t cs e = by m.shown (λ bs q. t bs q) (sym r.shown ∙ e)
  where
    by : (o : Option (List Command)) → ((bs : List Command) → o ≡ Some bs → m.device ≡ play bs start) → shown_more rs o ≡ Some cs → n.device ≡ play cs start
    by None t q = absurd (none-some cs q)
    by (Some bs) t q =
        r.device ∙ ap (play rs) (t bs (λ i. Some bs)) ∙ sym (play_append bs rs start) ∙ ap (λ x. play x start) (same_Some (bs ++ rs) cs q)

tied_start : (m : Meaning) → IsTied (anew m)
tied_start m cs e = by m.shown e
  where
    by : (o : Option (List Command)) → cleared o ≡ Some cs → start ≡ play cs start
    by None q = absurd (none-some cs q)
    by (Some bs) q = ap (λ x. play x start) (same_Some [] cs q)

tied_taken : (c : Call) (s : Stage) (m n : Meaning) (rs : List Command) → offers s c ≡ true → Recorded (start_of c m) rs n → Tied s m → Tied (next c s) n
tied_taken begin_encoding s m n rs o r t = tied_more (anew m) n rs r (tied_start m)
tied_taken end_encoding s m n rs o r t = tt
tied_taken discard_encoding s m n rs o r t = tt
tied_taken (opening p) idle m n rs o r t = absurd (false≢true o)
tied_taken (opening p) recording m n rs o r t = tied_more m n rs r t
tied_taken (opening p) (in_pass a) m n rs o r t = absurd (false≢true o)
tied_taken (ending h) idle m n rs o r t = absurd (false≢true o)
tied_taken (ending h) recording m n rs o r t = absurd (false≢true o)
tied_taken (ending h) (in_pass a) m n rs o r t = tied_more m n rs r t
tied_taken (quiet q) idle m n rs o r t = absurd (false≢true o)
tied_taken (quiet q) recording m n rs o r t = tied_more m n rs r t
tied_taken (quiet q) (in_pass a) m n rs o r t = tied_more m n rs r t
tied_taken (set c) idle m n rs o r t = absurd (false≢true o)
tied_taken (set c) recording m n rs o r t = absurd (false≢true o)
tied_taken (set c) (in_pass a) m n rs o r t = tied_more m n rs r t
tied_taken (drawing c) idle m n rs o r t = absurd (false≢true o)
tied_taken (drawing c) recording m n rs o r t = absurd (false≢true o)
tied_taken (drawing c) (in_pass a) m n rs o r t = tied_more m n rs r t

abbrev TiedAt : Scene → Type 0
TiedAt s = Tied s.stage s.meaning

tied_step : (m : Moment) → Does m.before m.call m.answer m.after → TiedAt m.before → TiedAt m.after
tied_step m d t =
    ⊎_elim
    (λ y.
    let w = took m.before m.call m.answer m.after d y in
    subst (λ s. Tied s m.after.meaning) (sym w.stage)
    (tied_taken m.call m.before.stage m.before.meaning m.after.meaning (records_at m) w.offered (d.recorded y) t))
    (λ y. subst TiedAt (sym (d.refused y)) t)
    (cases_Bool (is_taken m.answer))

tied_run : (s : Scene) (ms : List Moment) (t : Scene) → Run s ms t → TiedAt s → TiedAt t
tied_run s [] t r g = subst TiedAt (sym r) g
tied_run s (m ∷ ms) t r g = tied_run m.after ms t r.2 (tied_step m r.1 (subst TiedAt (sym r.0) g))

pub every_run_shows : EveryRunShows
every_run_shows s run t begins r past m rest cs cut ok shown =
    let parts = run_split s past (m ∷ rest) t (subst (λ ms. Run s ms t) cut r) in
    let none : TiedAt s = subst (λ x. Tied x s.meaning) (sym begins) tt in
    let tied : TiedAt m.before = subst TiedAt (sym parts.2.0) (tied_run s past parts.0 parts.1 none) in
    let d = parts.2.1 in
    let y : is_taken m.answer ≡ true = ap is_taken ok in
    let w = took m.before m.call m.answer m.after d y in
    let rec = d.recorded y in
    let from = starts m.call m.before.meaning cs shown in
    record {
      shown = rec.shown ∙ ap (shown_more (records_at m)) from;
      falls = rec.exact _ from;
      finds = λ c is.
          let offered = subst (λ z. offers m.before.stage z ≡ true) is w.offered in
          let here = in_a_pass m.before.stage m.before.meaning c offered tied in
          ap (λ z. found_by z (records_at m) (device_before m)) is
          ∙ ap (play (but_last (records_at m))) (here cs shown) ∙ sym (play_append cs (but_last (records_at m)) start);
    }
  where
    in_a_pass : (s : Stage) (m : Meaning) (c : DrawCall) → offers s (drawing c) ≡ true → Tied s m → IsTied m
    in_a_pass idle m c o t = absurd (false≢true o)
    in_a_pass recording m c o t = t
    in_a_pass (in_pass a) m c o t = t
