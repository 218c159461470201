-- What calls, answers and phases stand for.
use Rattle.std.specs.Prelude.{ℕ, option_map, slice_index}
use Rattle.command_list.specs.declared.command.Half.TheVariants.{Graphics, Compute}
use Rattle.command_list.specs.Refusals.{why_of}
use Rattle.device.specs.Meaning.{Meaning}
use Rattle.resources.specs.Listed.{changes_of}
use Rattle.resources.specs.Usages.{buffer, texture}
use Rattle.passes.specs.Calls as passes
use Rattle.encoder.specs.Opening as opening
use Rattle.encoder.specs.Scenes as scenes
use Rattle.encoder.specs.Scenes.{Scene}
use Rattle.encoder.specs.Phases.{idle_scene, list_scene, render_scene, compute_scene}
use Rattle.runs.specs.declared.call.Call.{Call}
use Rattle.runs.specs.declared.call.Call.TheVariants as call
use Rattle.runs.specs.declared.call.Answer.{Answer}
use Rattle.runs.specs.declared.call.Answer.TheVariants as answer
use Rattle.runs.specs.declared.phase.Phase.{Phase}
use Rattle.runs.specs.declared.phase.Phase.TheVariants as phase

-- a call, over a scratch of so many entries, filled so far
abbrev pub call_of : ℕ → ℕ → Call → scenes.Call
call_of len fill call.BeginEncoding = scenes.begin_encoding
call_of len fill call.EndEncoding = scenes.end_encoding
call_of len fill call.DiscardEncoding = scenes.discard_encoding
call_of len fill (call.TransitionBuffers bs) = scenes.quiet (opening.transition (changes_of (λ u. buffer u.bits) bs.now) len fill)
call_of len fill (call.TransitionTextures bs) = scenes.quiet (opening.transition (changes_of (λ u. texture u.bits) bs.now) len fill)
call_of len fill (call.BeginRenderPass label w h targets) = scenes.opening (opening.render_pass (option_map (λ b. b.now) label) w h targets.now)
call_of len fill call.EndRenderPass = scenes.ending Graphics
call_of len fill (call.BeginComputePass label) = scenes.opening (opening.compute_pass (option_map (λ b. b.now) label))
call_of len fill call.EndComputePass = scenes.ending Compute
call_of len fill (call.SetBindGroup l i g os) = scenes.set (passes.set_bind_group l.now i g.table g.dynamic_buffers.now os.now)
call_of len fill (call.SetImmediates l at ws) = scenes.set (passes.set_immediates l.now at ws.now)
call_of len fill (call.SetRenderPipeline p) = scenes.set (passes.set_render_pipeline p.now)
call_of len fill (call.SetComputePipeline p) = scenes.set (passes.set_compute_pipeline p.now)
call_of len fill (call.SetVertexBuffer i x) = scenes.set (passes.set_vertex_buffer i x)
call_of len fill (call.SetViewport v) = scenes.quiet (opening.set_viewport (slice_index v 0) (slice_index v 1) (slice_index v 2) (slice_index v 3) (slice_index v 4) (slice_index v 5))
call_of len fill (call.SetScissorRect r) = scenes.quiet (opening.set_scissor_rect r.x r.y r.w r.h)
call_of len fill (call.Draw first count instance instances) = scenes.drawing (passes.draw first count instance instances)
call_of len fill (call.DrawIndirect b offset count) = scenes.drawing (passes.draw_indirect b offset count)
call_of len fill (call.DispatchWorkgroups n) = scenes.drawing (passes.dispatch (slice_index n 0) (slice_index n 1) (slice_index n 2))
call_of len fill (call.DispatchWorkgroupsIndirect b offset) = scenes.drawing (passes.dispatch_indirect b offset)

abbrev pub told : Answer → scenes.Answer
told answer.Taken = scenes.taken
told (answer.Refused f) = scenes.refused (why_of f)
told answer.NotOffered = scenes.not_offered

-- the scene of an encoder in whichever phase it is
abbrev pub phase_scene : {X : Type 0} → (X → Meaning) → Phase X → Scene
phase_scene m (phase.Idle p) = idle_scene m p
phase_scene m (phase.Recording p) = list_scene m p
phase_scene m (phase.Render p) = render_scene m p
phase_scene m (phase.Compute p) = compute_scene m p
