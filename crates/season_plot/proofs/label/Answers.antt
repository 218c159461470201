use Rattle.season_plot.proofs.Parts.{label_made}
use Rattle.season_plot.proofs.label.Goals as goal

pub returns : goal.returns
returns c = label_made c.new.result c.new.ensures
