use Rattle.std.proofs.Common.{◌*◌, ◌/◌, length, ◌∙◌}
use Rattle.std.specs.List.{slice_get}
use Rattle.command_list.proofs.RowPlaces.{at_place}
use Rattle.command_list.proofs.record.Rows.get.Goals as goal

pub returns-clause-listed : goal.returns-clause-listed
returns-clause-listed g c = λ xs e.
    let row = g.T.Row in
    let laws = g.met.T.Row in
    let bs = c.args.self.now.bytes.now in
    c.nth.ensures ∙ at_place (λ i. row.row_at (row.WIDTH * i) bs) (slice_get xs) (length bs / row.WIDTH) c.args.i (laws.in_turn bs xs c.args.i e) (laws.past bs xs c.args.i e)
