use Rattle.std.proofs.Common.{refl, ap}
use Rattle.passes.specs.Calls.{set_vertex_buffer}
use Rattle.encoder.specs.Scenes.{pass_sets}
use Rattle.encoder.proofs.Handling.{does_set, renders}
use Rattle.encoder.proofs.phase.RenderPass.set_vertex_buffer.Goals as goal

pub returns : goal.returns
returns g c =
    let a = c.args in
    let call = set_vertex_buffer a.index a.binding in
    does_set call _ _ _ _ _ (ap (λ h. pass_sets h call) (renders _ a.self.now.renders)) refl c.set_vertex_buffer.ensures
