use Rattle.std.proofs.Common.{arith}
use Rattle.list_writer.proofs.Rows.{total_append, lay_then, laid_le, pair_room}
use Rattle.list_writer.proofs.operands.Tuple2Operands.lay_sized.Goals as goal

pub lay-n-requires : goal.lay-n-requires
lay-n-requires g c = omega (arith, c.requires.room, total_append (g.A.Operands.laid c.args.self.0) (g.B.Operands.laid c.args.self.1))

pub slice_bounds-lay_sized-count : goal.slice_bounds-lay_sized-count
slice_bounds-lay_sized-count g c = laid_le _ _ _ _ c.lay-n.ensures

pub slice_bounds-lay_sized-start : goal.slice_bounds-lay_sized-start
slice_bounds-lay_sized-start g c = laid_le _ _ _ _ c.lay-n.ensures

pub overflow_sub-size : goal.overflow_sub-size
overflow_sub-size g c = omega (arith, c.requires.size, c.lay-n.ensures.long, total_append (g.A.Operands.laid c.args.self.0) (g.B.Operands.laid c.args.self.1))

pub lay_sized-requires : goal.lay_sized-requires
lay_sized-requires g c =
    record {
      size = omega (arith, c.requires.size, c.lay-n.ensures.long, total_append (g.A.Operands.laid c.args.self.0) (g.B.Operands.laid c.args.self.1));
      room = pair_room _ (g.B.Operands.laid c.args.self.1) _ _ _ c.requires.room c.lay-n.ensures;
    }

pub overflow_add-result : goal.overflow_add-result
overflow_add-result g c = omega (arith, c.requires.room, c.lay-n.ensures.long, c.lay_sized.ensures.long, c.type_inv.out 0, total_append (g.A.Operands.laid c.args.self.0) (g.B.Operands.laid c.args.self.1))

pub returns : goal.returns
returns g c = lay_then _ _ _ _ _ _ _ c.lay-n.ensures (omega (arith, c.requires.room, c.lay-n.ensures.long, total_append (g.A.Operands.laid c.args.self.0) (g.B.Operands.laid c.args.self.1))) c.lay_sized.ensures
