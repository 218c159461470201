use Rattle.std.proofs.Common.{sym, rules}
use Rattle.encoder.proofs.Sizes.{event_size_is}
use Rattle.encoder.proofs.opening.event_size.Goals as goal

pub returns-else-is_empty-clause-value : goal.returns-else-is_empty-clause-value
returns-else-is_empty-clause-value c = sym (event_size_is c.args.units.now (search rules))
