use Rattle.std.proofs.Common.{length, ap}
use Rattle.resources.specs.Listed.{changes_of}
use Rattle.resources.specs.Usages.{texture}
use Rattle.passes.specs.State.{account}
use Rattle.encoder.specs.Opening.{transition}
use Rattle.encoder.specs.Scenes.{pass_quiets}
use Rattle.encoder.proofs.Handling.{does_quiet, computes}
use Rattle.encoder.proofs.Transitions.{transitioned}
use Rattle.encoder.proofs.phase.ComputePass.transition_textures.Goals as goal

pub returns-clause-does : goal.returns-clause-does
returns-clause-does g c =
    let a = c.args in
    let cs = changes_of (λ u. texture u.bits) a.barriers.now in
    let len = length a.scratch.now.entries.now in
    let fill = a.scratch.now.mark.fill in
    let m = g.R.Recorder.meaning in
    let call = transition cs len fill in
    does_quiet call _ _ _ (m c.transition.new.recorder) c.transition.result (ap (λ h. pass_quiets h call) (computes _ a.self.now.computes))
    (transitioned (m a.self.now.recorder) (m c.transition.new.recorder) len fill cs (account a.self.now.pass) c.transition.result c.transition.ensures.transitioned)
