use Rattle.std.proofs.Common.{arith}
use Rattle.list_writer.proofs.Growing.{grew}
use Rattle.list_writer.proofs.writer.append_row.Goals as goal

pub returns : goal.returns
returns g c =
    grew _ _ _ _ _ _ _ _ c.from.ensures c.requires.size (omega (arith, c.if-room-end.false)) c.lay_sized.ensures
