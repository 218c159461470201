use Rattle.std.proofs.Common.{refl, arith}
use Rattle.bindings.specs.Extents.{single}
use Rattle.bindings.proofs.Whole.{single_number, single_exact}
use Rattle.bindings.proofs.extent.single_bits.Goals as goal

pub float_to_bits-result : goal.float_to_bits-result
float_to_bits-result c = single_number c.args.number (omega arith)

pub returns : goal.returns
unfolding single
returns c = record { is = refl; exact = single_exact c.args.number (omega arith) }
