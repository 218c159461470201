use Rattle.std.proofs.Common.{refl}
use Rattle.passes.specs.State.{account}
use Rattle.encoder.proofs.Answered.{does_nothing}
use Rattle.runs.specs.Offering.{call_of}
use Rattle.runs.proofs.Away.{away_render, apart_from}
use Rattle.runs.proofs.phase.keep_render.Goals as goal

pub returns-in_default : goal.returns-in_default
returns-in_default g c =
    let a = c.args in
    let k = c.requires in
    λ len fill. does_nothing _ (call_of len fill a.call.now) _ (away_render len fill a.call.now (account a.pass.now.pass) a.pass.now.renders (apart_from k refl) (apart_from k refl) c.in_default.not-SetBindGroup c.in_default.not-SetImmediates c.in_default.not-SetRenderPipeline c.in_default.not-SetVertexBuffer c.in_default.not-SetViewport c.in_default.not-SetScissorRect c.in_default.not-Draw c.in_default.not-DrawIndirect) refl
