use Rattle.std.proofs.Common.{refl}
use Rattle.encoder.proofs.Answered.{does_nothing}
use Rattle.runs.specs.Offering.{call_of}
use Rattle.runs.proofs.Away.{away_idle}
use Rattle.runs.proofs.phase.leave_idle.Goals as goal

pub returns-in_default : goal.returns-in_default
returns-in_default g c = let a = c.args in λ len fill. does_nothing _ (call_of len fill a.call.now) _ (away_idle len fill a.call.now c.in_default.not-BeginEncoding) refl
