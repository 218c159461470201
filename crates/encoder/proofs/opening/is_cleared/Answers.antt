use Rattle.encoder.proofs.Sizes.{flagged}
use Rattle.encoder.proofs.opening.is_cleared.Goals as goal

pub returns : goal.returns
returns c = flagged c.args.attachment.now.ops
