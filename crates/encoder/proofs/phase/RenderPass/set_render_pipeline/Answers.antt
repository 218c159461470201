use Rattle.std.proofs.Common.{ap}
use Rattle.passes.specs.Calls.{set_render_pipeline}
use Rattle.encoder.specs.Scenes.{pass_sets}
use Rattle.encoder.proofs.Handling.{does_pipeline, renders}
use Rattle.encoder.proofs.phase.RenderPass.set_render_pipeline.Goals as goal

pub returns : goal.returns
returns g c =
    let a = c.args in
    let call = set_render_pipeline a.pipeline.now in
    does_pipeline call _ _ _ _ _ _ (ap (λ h. pass_sets h call) (renders _ a.self.now.renders)) c.record_render_pipeline.ensures
