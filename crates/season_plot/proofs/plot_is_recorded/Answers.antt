use Rattle.season_plot.proofs.Recording.{plot_is_recorded, draws_have_vertices}
use Rattle.season_plot.proofs.plot_is_recorded.Goals as goal

pub returns : goal.returns
returns c = record { recorded = plot_is_recorded; vertices = draws_have_vertices }
