use Rattle.std.proofs.Common.{Err, option_map, refl, ap, ◌∙◌}
use Rattle.std.proofs.lemmas.Result.{err_from_is_err_and}
use Rattle.encoder.proofs.Labelling.{compute_no, compute_yes}
use Rattle.encoder.proofs.opening.open_compute.Goals as goal

pub returns-in_err-label-in-Some : goal.returns-in_err-label-in-Some
returns-in_err-label-in-Some g c =
    let a = c.args in
    let p = err_from_is_err_and c.from_residual.result c.from_residual.ensures.1 in
    λ null. compute_no c.in-Some.bytes.now (option_map (λ b. b.now) a.label) (ap (option_map (λ b. b.now)) c.in-Some.is) _ _ _ null
    c.in_err-label-in-Some.field-0.0 c.in_err-label-in-Some.ensures (p.1 ∙ ap Err p.2) refl

pub returns-in_ok-label-in-Some : goal.returns-in_ok-label-in-Some
returns-in_ok-label-in-Some g c =
    let a = c.args in
    λ null. compute_yes c.in-Some.bytes.now (option_map (λ b. b.now) a.label) (ap (option_map (λ b. b.now)) c.in-Some.is) _ _ _ null
    _ c.in_ok-label-in-Some.ensures _ c.units.ensures.0 c.record_compute-in-Some.ensures
