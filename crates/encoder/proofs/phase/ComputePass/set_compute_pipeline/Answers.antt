use Rattle.std.proofs.Common.{ap}
use Rattle.passes.specs.Calls.{set_compute_pipeline}
use Rattle.encoder.specs.Scenes.{pass_sets}
use Rattle.encoder.proofs.Handling.{does_pipeline, computes}
use Rattle.encoder.proofs.phase.ComputePass.set_compute_pipeline.Goals as goal

pub returns : goal.returns
returns g c =
    let a = c.args in
    let call = set_compute_pipeline a.pipeline.now in
    does_pipeline call _ _ _ _ _ _ (ap (λ h. pass_sets h call) (computes _ a.self.now.computes)) c.record_compute_pipeline.ensures
