use Rattle.std.proofs.Common.{refl}
use Rattle.passes.specs.State.{account}
use Rattle.encoder.proofs.Answered.{does_nothing}
use Rattle.runs.specs.Offering.{call_of}
use Rattle.runs.proofs.Away.{away_compute, apart}
use Rattle.runs.proofs.phase.leave_compute.Goals as goal

pub returns-in_default : goal.returns-in_default
returns-in_default g c =
    let a = c.args in
    let l = c.requires in
    λ len fill. does_nothing _ (call_of len fill a.call.now) _ (away_compute len fill a.call.now (account a.pass.pass) a.pass.computes c.in_default.not-DiscardEncoding c.in_default.not-EndComputePass (λ y i z os. apart l refl) (λ y at ws. apart l refl) (λ p. apart l refl) (λ n. apart l refl) (λ b o. apart l refl) (λ bs. apart l refl) (λ bs. apart l refl)) refl
