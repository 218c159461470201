use Rattle.std.proofs.Common.{[], unwrap_or, ◌∙◌, arith}
use Rattle.list_writer.proofs.Rows.{total_entries}
use Rattle.list_writer.proofs.Parts.{rows_within, rows_laid}
use Rattle.list_writer.proofs.operands.RowsOperands.lay_sized.Goals as goal

pub lay_front-requires : goal.lay_front-requires
lay_front-requires g c =
    let rows = g.T.Row.rows c.args.self.bytes.now in
    let n = c.requires.size ∙ total_entries g.T.Operands.laid g.T.Row.WIDTH g.met.T.Entry.even (unwrap_or rows []) in
    record {
      within = omega (arith, n, rows_within g.T.Row.WIDTH rows _ (g.met.T.Row.counted c.args.self.bytes.now));
      room = omega (arith, c.requires.size, c.requires.room);
    }

pub returns : goal.returns
returns g c =
    let rows = g.T.Row.rows c.args.self.bytes.now in
    let n = c.requires.size ∙ total_entries g.T.Operands.laid g.T.Row.WIDTH g.met.T.Entry.even (unwrap_or rows []) in
    rows_laid g.T.Operands.laid g.T.Row.WIDTH g.met.T.Entry.even rows c.args.self.bytes.now _ _ _ c.lay_front.ensures.ranged (g.met.T.Entry.as_read c.args.self.bytes.now) n
    (omega (arith, n, rows_within g.T.Row.WIDTH rows _ (g.met.T.Row.counted c.args.self.bytes.now))) c.lay_front.ensures.front
