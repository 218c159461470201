use Rattle.std.proofs.Common.{length, refl, ap, ◌∙◌}
use Rattle.encoder.specs.Scenes.{offers}
use Rattle.encoder.proofs.Answered.{does_nothing}
use Rattle.runs.specs.Offering.{call_of, phase_scene}
use Rattle.runs.proofs.Away.{away_idle, apart_from}
use Rattle.runs.proofs.phase.keep.Goals as goal

pub returns-in-Idle-clause-does : goal.returns-in-Idle-clause-does
returns-in-Idle-clause-does g c =
    let a = c.args in
    let len = length a.scratch.now.entries.now in
    let fill = a.scratch.now.mark.fill in
    let m = g.R.Recorder.meaning in
    does_nothing (phase_scene m a.phase.now) (call_of len fill a.call.now) _ (ap (λ p. offers (phase_scene m p).stage (call_of len fill a.call.now)) c.in-Idle.is ∙ away_idle len fill a.call.now (apart_from c.requires refl)) refl
