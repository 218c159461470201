use Rattle.std.proofs.Common.{Err, option_map, refl, ap, ◌∙◌, arith}
use Rattle.std.proofs.lemmas.Result.{err_from_is_err_and}
use Rattle.encoder.proofs.Labelling.{render_no, render_yes}
use Rattle.encoder.proofs.opening.open_render.Goals as goal

pub returns-in_err-label-in-Some : goal.returns-in_err-label-in-Some
returns-in_err-label-in-Some g c =
    let a = c.args in
    let p = err_from_is_err_and c.from_residual-in_err-label-in-Some.result c.from_residual-in_err-label-in-Some.ensures.1 in
    let x = c.in_ok-extent.ensures in
    render_no c.in-Some.bytes.now (option_map (λ b. b.now) a.label) (ap (option_map (λ b. b.now)) c.in-Some.is) _ _ _ a.null_target a.width a.height a.attachments.now
    (omega arith) x.2 x.3 c.in_err-label-in-Some.field-0.0 c.in_err-label-in-Some.ensures (p.1 ∙ ap Err p.2) refl

pub returns-in_ok-label-in-Some : goal.returns-in_ok-label-in-Some
returns-in_ok-label-in-Some g c =
    let a = c.args in
    let x = c.in_ok-extent.ensures in
    render_yes c.in-Some.bytes.now (option_map (λ b. b.now) a.label) (ap (option_map (λ b. b.now)) c.in-Some.is) _ _ _ a.null_target a.width a.height a.attachments.now
    (omega arith) x.2 x.3 _ c.in_ok-label-in-Some.ensures _ _ _ c.units.ensures.0 x.0 x.1 c.record_render-in-Some.ensures
