-- The statement is a lemma; the function has nothing to add.
use Rattle.runs.proofs.Excluding.{excluded}
use Rattle.runs.proofs.laws.bad_encoders_are_excluded.Goals as goal

pub returns : goal.returns
returns c = excluded
