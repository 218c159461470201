-- The plot's calls come to its commands: by computing, for a layout whose parts are written out.
use Rattle.std.proofs.Common.{◌≡◌, true, [], ◌∷◌, Some, sym, refl, subst}
use Rattle.std.specs.Str.{chars}
use Rattle.device.specs.Writes.{gathered}
use Rattle.command_list.specs.Bits.{bit}
use Rattle.bindings.specs.Extents as extents
use Rattle.layouts.specs.declared.layout.PipelineLayout.{PipelineLayout}
use Rattle.passes.specs.Account.{unfit}
use Rattle.command_list.specs.Bits.{bit}
use Rattle.encoder.specs.Scenes.{verdict, idle}
use Rattle.encoder.specs.Phases.{scene}
use Rattle.runs.specs.Worked.{outcomes, beside, empty, IsPlotted}
use Rattle.runs.proofs.Working.{written, is_written}
use Rattle.season_plot.specs.Plot.{plot_calls, plot_pipeline, plot_commands, plot_upload, plot_label, all_made, PlotIsRecorded, DrawsHaveVertices}

abbrev Recorded : PipelineLayout → Type 0
Recorded k =
    all_made (outcomes (scene idle beside (empty 360)) (plot_calls 1 0 (plot_pipeline k)))
    ≡ Some (plot_commands (plot_upload ∷ []) plot_label)

recorded : (k : PipelineLayout) (p : IsPlotted true k) → Recorded (written true k p)
unfolding verdict unfit gathered bit chars extents.single lib.Ieee.to_bits lib.Ieee.of_int
recorded k p = refl

pub plot_is_recorded : PlotIsRecorded
plot_is_recorded k p = subst Recorded (sym (is_written true k p)) (recorded k p)

pub draws_have_vertices : DrawsHaveVertices
draws_have_vertices upload label = refl
