-- The contract of a draw excludes bad encoders.
use Rattle.std.proofs.Common.{◌≡◌, ◌+◌, true, List, [], ◌∷◌, None, sym, refl, ap, ◌∙◌, subst, arith}
use Rattle.std.proofs.lemmas.Bool.{true≢false, false≢true}
use Rattle.command_list.specs.Commands.{code_of, byte_of}
use Rattle.device.specs.Devices.{Device, play}
use Rattle.device.specs.Meaning.{Meaning}
use Rattle.device.proofs.Runs.{counts_rise}
use Rattle.device.proofs.Steps.{step_counts}
use Rattle.device.proofs.Updates.{update_here}
use Rattle.device.proofs.NoWrites.{Unwritten}
use Rattle.passes.specs.Calls.{DrawCall, prepared, own_command, asks_draw}
use Rattle.encoder.specs.Scenes.{drawing, Stage, idle, recording, in_pass, account_of, offers, records, asks, start_of, taken, is_taken, Scene}
use Rattle.runs.specs.Marks.{Moment, Run, device_before, device_after, account_at, since_opening}
use Rattle.runs.specs.Excluded.{NoSilentDraw, NoNeedlessRefusal, OfDraws, BadEncodersAreExcluded}
use Rattle.runs.proofs.Flushes.{Flushed, flush_played}
use Rattle.runs.proofs.Agreeing.{Agree}
use Rattle.runs.proofs.Viewing.{Viewed}
use Rattle.runs.proofs.Accepted.{flush_of, draw_played, draw_ready, Sound, own_unwritten}
use Rattle.encoder.proofs.Answered.{took, accepts}
use Rattle.runs.proofs.Law.{sound_run, run_split}

-- ---- counts

silent : NoSilentDraw
silent s t c does same =
    let w = took s (drawing c) taken t does refl in
    let a = account_of s.stage in
    let d = s.meaning.device in
    let e = play (flush_of c a) d in
    let own = own_command c a.roots.layout in
    let n = byte_of (code_of own) in
    let up : t.meaning.device.counts n ≡ e.counts n + 1 =
    ap (λ (z : Device). z.counts n) (w.device ∙ draw_played c a d) ∙ ap (λ f. f n) (step_counts own e) ∙ update_here e.counts n (e.counts n + 1) n refl in
    omega (arith, up, counts_rise (flush_of c a) d n, ap (λ (m : Meaning). m.device.counts n) same)

-- ---- refusals

refusing : NoNeedlessRefusal
refusing s t c a does offered clear room refused' = true≢false (sym (ap is_taken (does.answer ∙ accepts s c offered clear room)) ∙ refused')

-- ---- writes

-- an accepted draw of a run: its account agrees with the device that it meets, and its device is the flush's behind its own record
record At (c : DrawCall) (ever : List Moment) (m : Moment) : Type 0 where
  pub clear : asks_draw c (account_at m) ≡ None
  pub agree : Agree (account_at m).half (account_at m).pipeline (account_at m).roots (device_before m)
  pub viewed : Viewed ever (account_at m).vertices (device_before m)
  pub behind : Unwritten (play (flush_of c (account_at m)) (device_before m)) (device_after m)

in_pass_lem : (c : DrawCall) (ever : List Moment) (s : Stage) (d : Device) → offers s (drawing c) ≡ true → Sound ever s d
    → Agree (account_of s).half (account_of s).pipeline (account_of s).roots d × Viewed ever (account_of s).vertices d
in_pass_lem c ever idle d o g = absurd (false≢true o)
in_pass_lem c ever recording d o g = absurd (false≢true o)
in_pass_lem c ever (in_pass a) d o g = g

at : OfDraws (λ c m. (ever : List Moment) × At c ever m)
at s run t start r past m rest c cut is ok =
    let parts = run_split s past (m ∷ rest) t (subst (λ ms. Run s ms t) cut r) in
    let ever = since_opening [] past in
    let none : Sound [] s.stage s.meaning.device = subst (λ x. Sound [] x s.meaning.device) (sym start) tt in
    let g = subst (λ (x : Scene). Sound ever x.stage x.meaning.device) (sym parts.2.0) (sound_run [] s past parts.0 parts.1 none) in
    let w = took m.before m.call m.answer m.after parts.2.1 (ap is_taken ok) in
    let a = account_at m in
    let d = device_before m in
    let own = m.before.own in
    let sound = in_pass_lem c ever m.before.stage d (subst (λ z. offers m.before.stage z ≡ true) is w.offered) g in
    let dev = w.device ∙ ap (λ z. play (records own z a) (start_of z m.before.meaning).device) is ∙ draw_played c a d in (
      ever,
      record {
        clear = subst (λ z. asks own z a ≡ None) is w.clear;
        agree = sound.0;
        viewed = sound.1;
        behind = subst (λ z. Unwritten (play (flush_of c a) d) z) (sym dev) (own_unwritten c a.roots.layout (play (flush_of c a) d));
      },
    )

flush_at : (c : DrawCall) (m : Moment)
    → Flushed (account_at m).half (prepared c (account_at m).roots) (account_at m).vertices (device_before m) (play (flush_of c (account_at m)) (device_before m))
flush_at c m = flush_played (account_at m).half (prepared c (account_at m).roots) (account_at m).vertices (device_before m)

pub excluded : BadEncodersAreExcluded
excluded = record {
  silent = silent;
  refusing = refusing;
  stale = λ s run t start r past m rest c cut is ok k on same.
      let x = (at s run t start r past m rest c cut is ok).1 in
      let w = (draw_ready c (account_at m) (device_before m) x.agree x.clear).rises k on in
      omega (arith, w, x.behind.roots (account_at m).half k, same);
  stale_view = λ s run t start r past m rest c cut is ok i on same.
      let x = (at s run t start r past m rest c cut is ok).1 in
      let w = ((flush_at c m).view_put i (x.viewed.within i on) on).1 in
      omega (arith, w, x.behind.vertices i, same);
  rewriting = λ s run t start r past m rest c cut is ok k off more.
      let x = (at s run t start r past m rest c cut is ok).1 in
      let w = ((flush_at c m).kept k off).writes in
      omega (arith, w, x.behind.roots (account_at m).half k, more);
  rewriting_view = λ s run t start r past m rest c cut is ok i off more.
      let x = (at s run t start r past m rest c cut is ok).1 in
      let w = ((flush_at c m).view_kept i off).1 in
      omega (arith, w, x.behind.vertices i, more);
}
