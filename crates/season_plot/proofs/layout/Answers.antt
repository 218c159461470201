use Rattle.season_plot.proofs.Parts.{layout_made}
use Rattle.season_plot.proofs.layout.Goals as goal

pub returns : goal.returns
returns c = layout_made c.args.own c.new.result c.new.ensures.answer c.new.ensures.parts
