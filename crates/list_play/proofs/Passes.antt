-- A file that has been played up to a place.
use Rattle.std.proofs.Common.{◌≡◌, ℕ, ◌+◌, ◌-◌, ◌<◌, ◌≤◌, true, List, [], ◌∷◌, ◌++◌, length, drop, None, sym, refl, ap, ◌∙◌, subst, arith}
use Rattle.std.proofs.lemmas.List.{length-drop}
use Rattle.std.proofs.lemmas.Bool.{false≢true}
use Rattle.command_list.specs.declared.fault.Fault.{Fault}
use Rattle.command_list.specs.Commands.{Command, size, readable}
use Rattle.command_list.specs.Decoding.{first, front}
use Rattle.command_list.specs.Files.{accepted, after, has_version, file, is_accepted}
use Rattle.command_list.specs.Seen.{finished, got, stopped, step_at}
use Rattle.command_list.proofs.Fronts.{front_within}
use Rattle.list_writer.proofs.Bytewise.{Bytes, bytes_drop}
use Rattle.list_writer.proofs.Whole.{some_byte, front_readable}
use Rattle.list_file.proofs.Tails.{tail, file_tail, step_some, step_none, step_stop, tail_first, tail_ended, tail_broken, not_open, before, before_more, before_end, before_refused}
use Rattle.device.specs.Devices.{start}
use Rattle.device.specs.Meaning.{Meaning, sizes, Recorded, Taken, Refused}
use Rattle.list_play.specs.Playing.{blank, Filled, Whole}
use Rattle.device.proofs.Runs.{recorded_none, recorded_then, sizes_append}

-- the commands of bs before the place at were recorded between m and n
pub record Passed (bs : List ℕ) (at : ℕ) (m n : Meaning) : Type 0 where
  pub commands : List Command
  pub says : file bs ≡ before commands (tail bs at)
  pub recorded : Recorded m commands n
  pub place : at ≡ 1 + sizes commands
  pub within : at ≤ length bs

pub pass_start : (bs : List ℕ) (m : Meaning) → has_version bs ≡ true → Passed bs 1 m m
pass_start bs m v = record { commands = []; says = file_tail bs v; recorded = recorded_none m; place = refl; within = some_byte bs v }

module _ (bs : List ℕ) (at : ℕ) (m n : Meaning) (w : Passed bs at m n) where
  pub pass_end : (k : ℕ) → finished k ≡ step_at bs at → (cs : List Command) × (file bs ≡ accepted cs) × Recorded m cs n
  pass_end k e = (w.commands, w.says ∙ ap (before w.commands) (tail_ended bs at (step_none bs at k e)) ∙ before_end w.commands, w.recorded)

  pub pass_not_stopped : (k r p : ℕ) → is_accepted (file bs) ≡ true → stopped r p k ≡ step_at bs at → ⊥
  pass_not_stopped k r p a e =
      let s = step_stop bs at k r p e in
      false≢true (sym (ap is_accepted (w.says ∙ ap (before w.commands) (tail_broken bs at r s.0) ∙ before_refused w.commands r at)) ∙ a)

  module _ (c : Command) (k : ℕ) (b : Bytes bs) (e : got c k ≡ step_at bs at) where
    reads : (j : ℕ) × (front (drop at bs) ≡ first c j) × (k ≡ at + j)
    reads = step_some bs at k c e

    has : (readable c ≡ true) × (size c ≡ reads.0)
    has = front_readable (drop at bs) c reads.0 (bytes_drop at bs b) reads.1

    inside : (3 ≤ reads.0) × (reads.0 ≤ length (drop at bs))
    inside = front_within (drop at bs) c reads.0 reads.1

    far : k ≤ length bs
    far = let d = length-drop at bs in omega (arith, inside.1, inside.0, reads.2)

    pub pass_shorter : length bs - k < length bs - at
    pass_shorter = omega (arith, inside.0, reads.2, far)

    pub pass_not_refused : (f : Fault) (o : Meaning) → length bs ≤ m.space + 1 → Refused n c f o → ⊥
    pass_not_refused f o l r = r.why has.0 (omega (arith, has.1, reads.2, far, w.place, w.recorded.least))

    pub pass_more : (o : Meaning) → Taken n c o → Passed bs k m o
    pass_more o t = record {
      commands = w.commands ++ (c ∷ []);
      says = w.says ∙ ap (before w.commands) (tail_first bs at c reads.0 reads.1 ∙ ap (λ j. after c (tail bs j)) (sym reads.2)) ∙ sym (before_more w.commands c (tail bs k));
      recorded = recorded_then m n o w.commands (c ∷ []) w.recorded t.recorded;
      place = omega (arith, has.1, reads.2, w.place, sizes_append w.commands (c ∷ []));
      within = far;
    }

-- an accepted file has its version
pub accepted_some : (bs : List ℕ) → is_accepted (file bs) ≡ true → 1 ≤ length bs
accepted_some [] a = absurd (not_open [] a refl)
accepted_some (b ∷ bs) a = omega arith

-- what was played on an empty board of as many bytes as the file has
pub filled : (m n : Meaning) (bs : List ℕ) (k : ℕ) → m.device ≡ start → m.space ≡ length bs → m.made ≡ length bs → m.shown ≡ None
    → Whole m bs k n → Filled bs n
filled m n bs k d s e o w =
    let b : m ≡ blank (length bs) = λ i. record { device = d i; space = s i; made = e i; shown = o i } in
    (k, subst (λ x. Whole x bs k n) b w)
