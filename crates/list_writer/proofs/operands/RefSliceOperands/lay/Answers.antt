use Rattle.std.proofs.Common.{arith}
use Rattle.list_writer.proofs.Rows.{entry_again, entry_room, room_entry}
use Rattle.list_writer.proofs.operands.RefSliceOperands.lay.Goals as goal

pub lay-at-requires : goal.lay-at-requires
lay-at-requires g c =
    let e = g.T.Operands.laid in
    let w = g.T.Row.WIDTH in
    let even = g.met.T.Entry.even in
    omega (arith, entry_room e w even _ _ _ _ _ c.loop-x-test.true c.requires c.loop-x.auto.out c.loop-x.invariant.0, even c.x-item.result)

pub overflow_add-at : goal.overflow_add-at
overflow_add-at g c =
    let e = g.T.Operands.laid in
    let w = g.T.Row.WIDTH in
    let even = g.met.T.Entry.even in
    let room = room_entry e w even c.args.self.now c.loop-x.x-index c.loop-x-test.true in
    omega (arith, c.requires, c.loop-x.invariant.0.long, c.lay-at.ensures.long, even c.x-item.result)

pub loop-x-preserved : goal.loop-x-preserved
loop-x-preserved g c =
    let e = g.T.Operands.laid in
    let w = g.T.Row.WIDTH in
    let even = g.met.T.Entry.even in
    entry_again e w even _ _ _ _ _ _ _ _ c.loop-x-test.true c.x-item.is c.requires c.loop-x.invariant.0 c.lay-at.ensures
