use Rattle.std.proofs.Common.{refl}
use Rattle.passes.specs.Calls.{set_bind_group}
use Rattle.encoder.proofs.Handling.{does_set}
use Rattle.encoder.proofs.phase.RenderPass.set_bind_group.Goals as goal

pub returns : goal.returns
returns g c =
    let a = c.args in
    does_set (set_bind_group a.layout.now a.index a.group.table a.group.dynamic_buffers.now a.dynamic_offsets.now) _ _ _ _ _ refl refl c.set_bind_group.ensures
