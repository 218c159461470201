-- The law is a lemma; the function has nothing to add.
use Rattle.runs.proofs.Showing
use Rattle.runs.proofs.laws.every_run_shows.Goals as goal

pub returns : goal.returns
returns c = Showing.every_run_shows
