use Rattle.std.proofs.Common.{take, rules}
use Rattle.encoder.proofs.Sizes.{targets_readable}
use Rattle.encoder.proofs.opening.put_targets.Goals as goal

pub put-requires-clause-ranged : goal.put-requires-clause-ranged
put-requires-clause-ranged g c = targets_readable (take c.args.count c.args.targets) (search rules)
