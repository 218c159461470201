use Rattle.std.proofs.Common.{◌∙◌}
use Rattle.command_list.proofs.Places.{number_4}
use Rattle.command_list.proofs.fields.U32Wide.get.Goals as goal

pub returns : goal.returns
returns c = c.from_be_bytes.ensures ∙ number_4 c.args.at c.args.bytes.now _ c.requires c.part.ensures
