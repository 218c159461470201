use Rattle.std.proofs.Common.{◌≡◌, ℕ, List, [], ◌∷◌, map, slice_index, sym, refl, ap, ap₂, ◌∙◌, subst, arith}
use Rattle.std.proofs.lemmas.List.{length-map}
use Rattle.command_list.specs.Commands.{OMSetRenderTargets, RSSetViewports, RSSetScissorRects, size}
use Rattle.device.specs.Meaning.{Recorded}
use Rattle.encoder.specs.Opening.{target_of}
use Rattle.encoder.proofs.Coming.{put_recorded}
use Rattle.encoder.proofs.Handling.{handled_full}
use Rattle.encoder.proofs.Sizes.{targets_size, have_targets, render_size, render_recorded, offered_put}
use Rattle.encoder.proofs.opening.record_render.Goals as goal
use Rattle.command_list.specs.Refusals.{fault_of}

pub returns-then-space-size : goal.returns-then-space-size
returns-then-space-size g c =
    let a = c.args in
    let n = render_size a.units.now a.null_target a.extent.width a.extent.height a.attachments.now in
    handled_full _ _ _ _ _ _ _ _ refl (sym c.check_targets.ensures ∙ ap fault_of c.in_ok-check_targets.was) (omega (arith, n, c.event_size.ensures.value, c.clears_size.ensures.value)) refl refl

pub put_targets-requires-clause-fits : goal.put_targets-requires-clause-fits
put_targets-requires-clause-fits g c =
    let a = c.args in
    let t = targets_size (map (target_of a.null_target) a.attachments.now) in
    let l = length-map a.attachments.now (target_of a.null_target) in
    let e = put_recorded _ _ _ _ c.put_event.ensures in
    let h = put_recorded _ _ _ _ c.put.ensures in
    let q = ap (λ hs. size (OMSetRenderTargets hs)) c.bound_targets-targets.ensures in
    omega (arith, t, l, q, e.least, h.least, c.event_size.ensures.value)

pub put_clears-requires-clause-bound : goal.put_clears-requires-clause-bound
put_clears-requires-clause-bound g c = have_targets c.args.null_target c.bound_targets-targets.result c.args.attachments.now c.bound_targets-targets.ensures

pub put_clears-requires-clause-fits : goal.put_clears-requires-clause-fits
put_clears-requires-clause-fits g c =
    let a = c.args in
    let t = targets_size (map (target_of a.null_target) a.attachments.now) in
    let l = length-map a.attachments.now (target_of a.null_target) in
    let e = put_recorded _ _ _ _ c.put_event.ensures in
    let h = put_recorded _ _ _ _ c.put.ensures in
    let q = ap (λ hs. size (OMSetRenderTargets hs)) c.bound_targets-targets.ensures in
    let s = put_recorded _ _ _ _ c.put_targets.ensures in
    omega (arith, t, l, q, e.least, h.least, s.least, c.event_size.ensures.value, c.clears_size.ensures.value)

pub put-requires-2-clause-fits : goal.put-requires-2-clause-fits
put-requires-2-clause-fits g c =
    let a = c.args in
    let t = targets_size (map (target_of a.null_target) a.attachments.now) in
    let l = length-map a.attachments.now (target_of a.null_target) in
    let e = put_recorded _ _ _ _ c.put_event.ensures in
    let h = put_recorded _ _ _ _ c.put.ensures in
    let q = ap (λ hs. size (OMSetRenderTargets hs)) c.bound_targets-targets.ensures in
    let s = put_recorded _ _ _ _ c.put_targets.ensures in
    let k = put_recorded _ _ _ _ c.put_clears.ensures in
    omega (arith, t, l, q, e.least, h.least, s.least, k.least, c.event_size.ensures.value, c.clears_size.ensures.value)

pub put-requires-3-clause-fits : goal.put-requires-3-clause-fits
put-requires-3-clause-fits g c =
    let a = c.args in
    let t = targets_size (map (target_of a.null_target) a.attachments.now) in
    let l = length-map a.attachments.now (target_of a.null_target) in
    let e = put_recorded _ _ _ _ c.put_event.ensures in
    let h = put_recorded _ _ _ _ c.put.ensures in
    let q = ap (λ hs. size (OMSetRenderTargets hs)) c.bound_targets-targets.ensures in
    let s = put_recorded _ _ _ _ c.put_targets.ensures in
    let k = put_recorded _ _ _ _ c.put_clears.ensures in
    let v = put_recorded _ _ _ _ c.put-2.ensures in
    omega (arith, t, l, q, e.least, h.least, s.least, k.least, v.least, c.event_size.ensures.value, c.clears_size.ensures.value)

pub returns : goal.returns
returns g c =
    let a = c.args in
    let m = g.R.Recorder.meaning in
    let n = render_size a.units.now a.null_target a.extent.width a.extent.height a.attachments.now in
    let x = c.viewport.ensures.value in
    let view = subst (λ (y : List ℕ). Recorded (m c.put_clears.new.recorder) (RSSetViewports (slice_index y 0) (slice_index y 1) (slice_index y 2) (slice_index y 3) (slice_index y 4) (slice_index y 5) ∷ []) (m c.put-2.new.recorder)) x (put_recorded _ _ _ _ c.put-2.ensures) in
    let bound = subst (λ (hs : List ℕ). Recorded (m c.put.new.recorder) (OMSetRenderTargets hs ∷ []) (m c.put_targets.new.recorder)) c.bound_targets-targets.ensures (put_recorded _ _ _ _ c.put_targets.ensures) in
    let ends : RSSetScissorRects 0 0 c.width.result c.height.result ≡ RSSetScissorRects 0 0 a.extent.width a.extent.height = ap₂ (λ w h. RSSetScissorRects 0 0 w h) c.width.ensures.0 c.height.ensures.0 in
    offered_put _ _ (RSSetScissorRects 0 0 c.width.result c.height.result ∷ []) (m a.recorder.now) (m c.put-2.new.recorder) (m c.put-3.new.recorder) c.put-3.result
    (sym c.check_targets.ensures ∙ ap fault_of c.in_ok-check_targets.was) (omega (arith, n, c.event_size.ensures.value, c.clears_size.ensures.value))
    (λ last. render_recorded a.units.now a.null_target a.extent.width a.extent.height a.attachments.now _ _ _ _ _ _ _
    (put_recorded _ _ _ _ c.put_event.ensures) (put_recorded _ _ _ _ c.put.ensures) bound (put_recorded _ _ _ _ c.put_clears.ensures) view
    (subst (λ x. Recorded (m c.put-2.new.recorder) (x ∷ []) (m c.put-3.new.recorder)) ends last))
    c.put-3.ensures
