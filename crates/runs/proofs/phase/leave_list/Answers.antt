use Rattle.std.proofs.Common.{refl}
use Rattle.encoder.proofs.Answered.{does_nothing}
use Rattle.runs.specs.Offering.{call_of}
use Rattle.runs.proofs.Away.{away_list, apart}
use Rattle.runs.proofs.phase.leave_list.Goals as goal

pub returns-in_default : goal.returns-in_default
returns-in_default g c =
    let a = c.args in
    let l = c.requires in
    λ len fill. does_nothing _ (call_of len fill a.call.now) _ (away_list len fill a.call.now c.in_default.not-EndEncoding c.in_default.not-DiscardEncoding (λ bs. apart l refl) (λ bs. apart l refl) c.in_default.not-BeginRenderPass c.in_default.not-BeginComputePass) refl
