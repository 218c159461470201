use Rattle.std.proofs.Common.{[], ◌∷◌, ap, sym, ◌∙◌, subst, arith}
use Rattle.command_list.specs.Commands.{SetPipelineState, IASetPrimitiveTopology}
use Rattle.command_list.specs.Refusals.{fault_of}
use Rattle.device.specs.Meaning.{Recorded, sizes}
use Rattle.device.proofs.Runs.{sizes_append, recorded_then}
use Rattle.passes.specs.Calls.{signature_first}
use Rattle.passes.specs.State.{account}
use Rattle.encoder.proofs.Coming.{put_recorded}
use Rattle.encoder.proofs.Handling.{handled_taken}
use Rattle.encoder.proofs.pipeline.record_render_pipeline.Goals as goal

pub returns : goal.returns
returns g c =
    let clear = sym c.check_pipeline.ensures ∙ ap fault_of c.in_ok-check_pipeline.was in
    let a = account c.args.pass.now in
    let p = c.args.pipeline.now in
    let first = signature_first a.half p.layout.signature a.roots.layout a.pipeline in
    let same = ap (λ s. signature_first a.half s a.roots.layout a.pipeline) c.signature-signature.ensures in
    let set = SetPipelineState p.handle ∷ [] in
    let drawn_as = IASetPrimitiveTopology p.topology ∷ [] in
    let all = sizes_append first (SetPipelineState p.handle ∷ IASetPrimitiveTopology p.topology ∷ []) in
    handled_taken _ _ _ _ _ _ _ clear (omega (arith, all, ap sizes same, c.signature_size.ensures.value)) c.set_render_pipeline.ensures
    (recorded_then _ _ _ first (SetPipelineState p.handle ∷ IASetPrimitiveTopology p.topology ∷ []) (subst (λ cs. Recorded (g.R.Recorder.meaning c.args.recorder.now) cs (g.R.Recorder.meaning c.put_signature.new.recorder)) same (put_recorded _ _ _ _ c.put_signature.ensures))
    (recorded_then _ _ _ set drawn_as (put_recorded _ _ _ _ c.put.ensures) (put_recorded _ _ _ _ c.put-2.ensures)))
