use Rattle.std.proofs.Common.{◌≡◌, ◌<◌, length, get_or, refl, ap, ap₂, sym, ◌∙◌, subst, arith}
use Rattle.encoder.specs.Scenes.{Scene, Does}
use Rattle.encoder.specs.Phases.{idle_scene}
use Rattle.runs.specs.Offering.{call_of, told, phase_scene}
use Rattle.runs.proofs.Driving.{Driving, driving_none, driving_more, driving_all, kept_then}
use Rattle.runs.proofs.drive.drive.Goals as goal

pub loop-i-init : goal.loop-i-init
loop-i-init g c =
    let a = c.args in (
      refl,
      record { same = refl; long = refl; below = refl },
      subst (λ (s : Scene). Driving s (length a.scratch.now.entries.now) a.scratch.now.mark.fill a.calls.now a.answers.now a.answers.now 0 (idle_scene g.R.Recorder.meaning c.new.result)) c.new.ensures.scene (driving_none _ _ _ _ _),
    )

pub loop-i-preserved : goal.loop-i-preserved
loop-i-preserved g c =
    let a = c.args in
    let l = c.loop-i in
    let m = g.R.Recorder.meaning in
    let len = length a.scratch.now.entries.now in
    let fill = a.scratch.now.mark.fill in
    let x = c.index-calls-i.result in
    let within : l.i < length a.calls.now = omega (arith, c.min-i-end.ensures) in
    let answered : l.i < length a.answers.now = omega (arith, c.min-i-end.ensures) in
    let k = l.invariant.1 in
    let o = c.step in
    let is : call_of (length l.scratch.entries.now) l.scratch.mark.fill x ≡ call_of len fill (get_or a.calls.now l.i x) = ap₂ (λ n f. call_of n f x) k.long k.same ∙ ap (call_of len fill) c.index-calls-i.is in
    let does = subst (λ y. Does (phase_scene m l.phase) y (told o.result) (phase_scene m o.new.phase)) is o.ensures.does in (
      o.ensures.lent ∙ l.invariant.0,
      kept_then _ _ _ _ _ _ k o.ensures.kept,
      driving_more _ _ _ _ _ _ _ _ l.invariant.2 within answered x o.result _ does _ refl,
    )

pub returns-clause-driven : goal.returns-clause-driven
returns-clause-driven g c = driving_all _ _ _ _ _ _ _ _ c.loop-i.invariant.2 refl (omega (arith, c.min-i-end.ensures))
