use Rattle.passes.proofs.Firsts.{refusals_first}
use Rattle.passes.proofs.laws.refusals_are_first.Goals as goal

pub returns : goal.returns
returns c = refusals_first
