use Rattle.std.proofs.Common.{◌∙◌}
use Rattle.command_list.proofs.Places.{number_2}
use Rattle.command_list.proofs.fields.U16Wide.get.Goals as goal

pub returns : goal.returns
returns c = c.from_be_bytes.ensures ∙ number_2 c.args.at c.args.bytes.now _ c.requires c.part.ensures
