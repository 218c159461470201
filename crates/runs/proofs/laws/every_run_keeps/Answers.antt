-- The law is a lemma; the function has nothing to add.
use Rattle.runs.proofs.Law.{every_run_keeps}
use Rattle.runs.proofs.laws.every_run_keeps.Goals as goal

pub returns : goal.returns
returns c = every_run_keeps
