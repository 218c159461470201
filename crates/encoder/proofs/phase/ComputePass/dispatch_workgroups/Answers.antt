use Rattle.std.proofs.Common.{Some, refl, ap, sym, slice_index}
use Rattle.passes.specs.Calls.{dispatch}
use Rattle.encoder.specs.Scenes.{pass_draws}
use Rattle.encoder.proofs.Handling.{does_draw, computes}
use Rattle.encoder.proofs.phase.ComputePass.dispatch_workgroups.Goals as goal

pub returns : goal.returns
returns g c =
    let a = c.args in
    let n = slice_index a.count in
    let call = dispatch (n 0) (n 1) (n 2) in
    does_draw call _ _ _ _ _ _ _ _ (ap (λ h. pass_draws h call) (computes _ a.self.now.computes)) refl (ap Some (sym c.from_dispatch-constants.ensures.value)) refl c.record_draw.ensures
