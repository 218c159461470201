use Rattle.std.proofs.Common.{sym}
use Rattle.command_list.proofs.Places.{number_1}
use Rattle.command_list.proofs.fields.U8Wide.get.Goals as goal

pub returns : goal.returns
returns c = sym (number_1 c.args.at c.args.bytes.now c.requires)
