use Rattle.std.proofs.Common.{Some, refl, ap, sym}
use Rattle.passes.specs.Calls.{draw}
use Rattle.encoder.specs.Scenes.{pass_draws}
use Rattle.encoder.proofs.Handling.{does_draw, renders}
use Rattle.encoder.proofs.phase.RenderPass.draw.Goals as goal

pub returns : goal.returns
returns g c =
    let a = c.args in
    let call = draw a.first_vertex a.vertex_count a.first_instance a.instance_count in
    does_draw call _ _ _ _ _ _ _ _ (ap (λ h. pass_draws h call) (renders _ a.self.now.renders)) refl (ap Some (sym c.from_draw-constants.ensures.value)) refl c.record_draw.ensures
