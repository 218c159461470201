use Rattle.std.proofs.Common.{arith}
use Rattle.list_file.proofs.Tails.{rewrote, holds_accepted}
use Rattle.list_file.proofs.rewrite.Goals as goal

pub returns : goal.returns
returns c = rewrote c.args.file.now c.args.out.now _ (λ i. omega (arith, c.type_inv.file i)) (holds_accepted _ _ c.in_ok-check.ensures) c.if-out-size.false c.in_ok-rewrite_all.ensures
