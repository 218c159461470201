use Rattle.runs.proofs.Working
use Rattle.runs.proofs.laws.worked_plots.Goals as goal

pub returns : goal.returns
returns c = Working.worked_plots
