-- A list whose meaning shows some commands is a file of them.
use Rattle.std.proofs.Common.{◌≡◌, ℕ, zero, suc, ◌+◌, ◌-◌, ◌<◌, ◌≤◌, true, List, [], ◌∷◌, ◌++◌, length, take, Some, sym, refl, ap, ◌∙◌, subst, arith}
use Rattle.std.proofs.lemmas.Bool.{false≢true}
use Rattle.std.proofs.lemmas.List.{length-take-le}
use Rattle.command_list.specs.Commands.{Command}
use Rattle.command_list.specs.Files.{Verdict, accepted, refused, file, is_accepted}
use Rattle.device.specs.Meaning.{Meaning, sizes}
use Rattle.encoder.specs.Scenes.{start_of, taken, Scene}
use Rattle.list_bytes.specs.Listed.{is_whole, commands_in, listed}
use Rattle.runs.specs.declared.call.Call.{Call}
use Rattle.runs.specs.declared.call.Answer.{Answer}
use Rattle.runs.specs.Marks.{Moment, Run, records_at}
use Rattle.runs.specs.Encoded.{recorded}
use Rattle.runs.specs.Driven.{Driven}
use Rattle.runs.proofs.Law.{run_split}
use Rattle.runs.proofs.Listing.{run_shows}

accepted_of : (v : Verdict) (cs : List Command) → is_accepted v ≡ true → Some (commands_in v) ≡ Some cs → v ≡ accepted cs
accepted_of (accepted ds) cs a e = let same : ds ≡ cs = cc in ap accepted same
accepted_of (refused r p) cs a e = absurd (false≢true a)

pub reads_back : (bs : List ℕ) (n : ℕ) (cs : List Command) → is_whole bs n ≡ true → (listed bs n).shown ≡ Some cs → file (take n bs) ≡ accepted cs
reads_back bs n cs w e = accepted_of (file (take n bs)) cs w e

-- a list file has a byte
some_bytes : (bs : List ℕ) (n : ℕ) → is_whole bs n ≡ true → 0 < length bs
unfolding file
some_bytes [] zero w = absurd (false≢true w)
some_bytes [] (suc n) w = absurd (false≢true w)
some_bytes (b ∷ bs) n w = omega arith

-- what a list does not take is its space
pub left_over : (bs : List ℕ) (n k : ℕ) → n ≤ length bs → is_whole bs n ≡ true → 0 < k → (listed bs n).made ≡ k - 1 → (listed bs n).space + length (take n bs) ≡ k
left_over bs n k w f h e = let t = length-take-le n bs w in let s = some_bytes bs n f in omega (arith, w, h, e, t, s)

-- where commands are shown at the start of a run, the space falls by exactly the bytes of each call's records
pub space_falls : (s : Scene) (len fill : ℕ) (calls : List Call) (before after : List Answer) (t : Scene) (d : Driven s len fill calls before after t) (cs : List Command) → s.meaning.shown ≡ Some cs
    → (past : List Moment) (m : Moment) (rest : List Moment) → d.run ≡ past ++ (m ∷ rest) → m.answer ≡ taken
    → (start_of m.call m.before.meaning).space ≡ m.after.meaning.space + sizes (records_at m)
space_falls s len fill calls before after t d cs e past m rest cut ok =
    let parts = run_split s past (m ∷ rest) t (subst (λ ms. Run s ms t) cut d.runs) in
    let shown = ap (λ (x : Scene). x.meaning.shown) parts.2.0 ∙ run_shows past s parts.0 parts.1 cs e in
    (d.shows past m rest (recorded past cs) cut ok shown).falls
