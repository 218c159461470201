use Rattle.std.proofs.Common.{refl, ap, slice_index}
use Rattle.encoder.specs.Opening.{set_viewport}
use Rattle.encoder.specs.Scenes.{pass_quiets}
use Rattle.encoder.proofs.Handling.{does_quiet, handled_one, renders}
use Rattle.encoder.proofs.phase.RenderPass.set_viewport.Goals as goal

pub returns : goal.returns
returns g c =
    let a = c.args in
    let x = slice_index a.viewport in
    let call = set_viewport (x 0) (x 1) (x 2) (x 3) (x 4) (x 5) in
    does_quiet call _ _ _ _ _ (ap (λ h. pass_quiets h call) (renders _ a.self.now.renders)) (handled_one _ _ _ _ _ _ refl refl c.rs_set_viewports.ensures)
