-- Which calls leave their phase where they are taken.
use Rattle.std.specs.Prelude.{Bool, true, false}
use Rattle.runs.specs.declared.call.Call.{Call}
use Rattle.runs.specs.declared.call.Call.TheVariants as call

-- those that begin or end a list or a pass
abbrev pub leaves : Call → Bool
leaves call.BeginEncoding = true
leaves call.EndEncoding = true
leaves call.DiscardEncoding = true
leaves (call.TransitionBuffers bs) = false
leaves (call.TransitionTextures bs) = false
leaves (call.BeginRenderPass label w h targets) = true
leaves call.EndRenderPass = true
leaves (call.BeginComputePass label) = true
leaves call.EndComputePass = true
leaves (call.SetBindGroup l i g os) = false
leaves (call.SetImmediates l at ws) = false
leaves (call.SetRenderPipeline p) = false
leaves (call.SetComputePipeline p) = false
leaves (call.SetVertexBuffer i x) = false
leaves (call.SetViewport v) = false
leaves (call.SetScissorRect r) = false
leaves (call.Draw first count instance instances) = false
leaves (call.DrawIndirect b offset count) = false
leaves (call.DispatchWorkgroups n) = false
leaves (call.DispatchWorkgroupsIndirect b offset) = false
