use Rattle.std.proofs.Common.{[], ◌∷◌}
use Rattle.device.proofs.Runs.{recorded_then}
use Rattle.device.proofs.together.set_pipeline.Goals as goal

pub returns : goal.returns
returns g c =
    recorded_then _ _ _ (_ ∷ []) (_ ∷ []) c.in_ok-set_graphics_root_signature.ensures.recorded c.in_ok-set_pipeline_state.ensures.recorded
