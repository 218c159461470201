use Rattle.std.proofs.Common.{arith}
use Rattle.layouts.proofs.Masks.{span_of}
use Rattle.layouts.proofs.mask.span.Goals as goal

pub returns : goal.returns
returns c = span_of c.args.a c.args.b _ _ (omega arith) (omega arith) c.low.ensures c.low-2.ensures
