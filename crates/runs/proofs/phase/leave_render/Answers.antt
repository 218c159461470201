use Rattle.std.proofs.Common.{refl}
use Rattle.passes.specs.State.{account}
use Rattle.encoder.proofs.Answered.{does_nothing}
use Rattle.runs.specs.Offering.{call_of}
use Rattle.runs.proofs.Away.{away_render, apart}
use Rattle.runs.proofs.phase.leave_render.Goals as goal

pub returns-in_default : goal.returns-in_default
returns-in_default g c =
    let a = c.args in
    let l = c.requires in
    λ len fill. does_nothing _ (call_of len fill a.call.now) _ (away_render len fill a.call.now (account a.pass.pass) a.pass.renders c.in_default.not-DiscardEncoding c.in_default.not-EndRenderPass (λ y i z os. apart l refl) (λ y at ws. apart l refl) (λ p. apart l refl) (λ i x. apart l refl) (λ v. apart l refl) (λ r. apart l refl) (λ w x y z. apart l refl) (λ b o n. apart l refl)) refl
