use Rattle.list_file.proofs.Known.{records_known}
use Rattle.list_file.proofs.records_are_known.Goals as goal

pub returns : goal.returns
returns c = records_known
