use Rattle.std.proofs.Common.{length, refl}
use Rattle.passes.specs.State.{account}
use Rattle.encoder.proofs.Answered.{does_nothing}
use Rattle.runs.specs.Offering.{call_of}
use Rattle.runs.proofs.Away.{away_compute, apart_from}
use Rattle.runs.proofs.phase.keep_compute.Goals as goal

pub returns-in_default : goal.returns-in_default
returns-in_default g c =
    let a = c.args in
    let len = length a.scratch.now.entries.now in
    let fill = a.scratch.now.mark.fill in
    let k = c.requires in
    record {
      lent = refl;
      kept = record { same = refl; long = refl; below = refl };
      does = does_nothing _ (call_of len fill a.call.now) _ (away_compute len fill a.call.now (account a.pass.now.pass) a.pass.now.computes (apart_from k refl) (apart_from k refl) c.in_default.not-SetBindGroup c.in_default.not-SetImmediates c.in_default.not-SetComputePipeline c.in_default.not-DispatchWorkgroups c.in_default.not-DispatchWorkgroupsIndirect c.in_default.not-TransitionBuffers c.in_default.not-TransitionTextures) refl;
    }
