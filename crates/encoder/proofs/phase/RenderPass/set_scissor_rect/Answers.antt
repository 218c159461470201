use Rattle.std.proofs.lemmas.Result.{err_from_is_err_and}
use Rattle.std.proofs.Common.{Err, refl, ap, sym, ◌∙◌, subst}
use Rattle.bindings.specs.declared.rect.Bounds.{Bounds}
use Rattle.command_list.specs.Commands.{RSSetScissorRects}
use Rattle.device.specs.Meaning.{Asked}
use Rattle.encoder.specs.Opening.{set_scissor_rect}
use Rattle.encoder.specs.Scenes.{quiet, pass_quiets, Does}
use Rattle.encoder.specs.Handled.{answered}
use Rattle.encoder.specs.Phases.{render_scene}
use Rattle.encoder.proofs.Handling.{does_quiet, handled_one, handled_asked, renders, scissor_within, scissor_outside}
use Rattle.encoder.proofs.phase.RenderPass.set_scissor_rect.Goals as goal

pub returns-in_err-ends : goal.returns-in_err-ends
returns-in_err-ends g c =
    let r = c.args.rect in
    let call = set_scissor_rect r.x r.y r.w r.h in
    let p = err_from_is_err_and c.from_residual.result c.from_residual.ensures.1 in
    let e = c.in_err-ends.ensures in
    let f = c.in_err-ends.field-0.0 in
    let s = render_scene g.R.Recorder.meaning c.args.self.now in
    subst (λ x. Does s (quiet call) (answered x) s) (sym (p.1 ∙ ap Err p.2))
    (does_quiet call _ _ _ _ (Err f) (ap (λ h. pass_quiets h call) (renders _ c.args.self.now.renders)) (handled_asked _ _ _ _ _ _ _ f (scissor_outside r f e.0 e.1) refl refl))

pub returns : goal.returns
returns g c =
    let a = c.args in
    let r = a.rect in
    let call = set_scissor_rect r.x r.y r.w r.h in
    let k = c.in_ok-ends.ensures in
    let m = g.R.Recorder.meaning in
    does_quiet call _ _ _ _ _ (ap (λ h. pass_quiets h call) (renders _ a.self.now.renders))
    (handled_one _ _ _ _ _ _ (scissor_within r k.1) refl
    (subst (λ (b : Bounds). Asked (m a.self.now.recorder) (RSSetScissorRects b.left b.top b.right b.bottom) c.rs_set_scissor_rects.result (m c.rs_set_scissor_rects.new.self)) k.0 c.rs_set_scissor_rects.ensures))
