use Rattle.encoder.proofs.Firsts.{refusals_are_first}
use Rattle.encoder.proofs.laws.refusals_are_first.Goals as goal

pub returns : goal.returns
returns c = refusals_are_first
