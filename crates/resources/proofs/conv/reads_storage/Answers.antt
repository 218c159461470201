use Rattle.resources.proofs.States.{flag_on, flag_off}
use Rattle.resources.proofs.conv.reads_storage.Goals as goal

pub returns-then-bits-ne0 : goal.returns-then-bits-ne0
returns-then-bits-ne0 c = rw (flag_on c.args.bits 6 c.if-bits-ne0.true)

pub returns-else-bits-ne0 : goal.returns-else-bits-ne0
returns-else-bits-ne0 c = rw (flag_off c.args.bits 6 c.if-bits-ne0.false)
