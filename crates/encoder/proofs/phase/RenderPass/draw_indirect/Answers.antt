use Rattle.std.proofs.Common.{sym, refl, ap, arith}
use Rattle.std.proofs.lemmas.Bool.{lt-ltb, le-ltb}
use Rattle.command_list.specs.declared.command.Half.TheVariants.{Graphics}
use Rattle.command_list.specs.declared.fault.Number.TheVariants as number
use Rattle.command_list.specs.Commands.{ExecuteIndirect}
use Rattle.passes.specs.Calls.{draw_indirect}
use Rattle.encoder.specs.Scenes.{pass_draws}
use Rattle.encoder.proofs.Handling.{does_draw, draw_absent, renders}
use Rattle.encoder.proofs.phase.RenderPass.draw_indirect.Goals as goal
use Rattle.command_list.proofs.Refusing.{fault_is}

pub returns-then-buffer-eq0 : goal.returns-then-buffer-eq0
returns-then-buffer-eq0 g c =
    let a = c.args in
    let call = draw_indirect a.buffer a.offset a.draw_count in
    draw_absent call _ _ _ (ap (λ h. pass_draws h call) (renders _ a.self.now.renders)) (le-ltb 0 a.buffer (omega arith)) _ (fault_is _ number.Absent 0 c.at.ensures)

pub returns : goal.returns
returns g c =
    let a = c.args in
    let call = draw_indirect a.buffer a.offset a.draw_count in
    does_draw call _ _ _ _ _ _ _ _ (ap (λ h. pass_draws h call) (renders _ a.self.now.renders)) (lt-ltb 0 a.buffer (omega arith)) refl
    (ap (λ o. ExecuteIndirect Graphics o a.draw_count a.buffer a.offset) (sym c.own_slot.ensures)) c.record_draw.ensures
