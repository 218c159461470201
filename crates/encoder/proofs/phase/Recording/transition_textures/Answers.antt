use Rattle.std.proofs.Common.{length, refl}
use Rattle.resources.specs.Listed.{changes_of}
use Rattle.resources.specs.Usages.{texture}
use Rattle.encoder.specs.Opening.{transition}
use Rattle.encoder.proofs.Handling.{does_listed}
use Rattle.encoder.proofs.Transitions.{transitioned}
use Rattle.encoder.proofs.phase.Recording.transition_textures.Goals as goal

pub returns-clause-does : goal.returns-clause-does
returns-clause-does g c =
    let a = c.args in
    let cs = changes_of (λ u. texture u.bits) a.barriers.now in
    let len = length a.scratch.now.entries.now in
    let fill = a.scratch.now.mark.fill in
    let m = g.R.Recorder.meaning in
    does_listed (transition cs len fill) a.self.now.own (m a.self.now.recorder) (m c.transition.new.recorder) c.transition.result refl
    (transitioned (m a.self.now.recorder) (m c.transition.new.recorder) len fill cs tt c.transition.result c.transition.ensures.transitioned)
