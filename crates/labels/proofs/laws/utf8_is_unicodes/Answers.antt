use Rattle.labels.proofs.Utf8
use Rattle.labels.proofs.laws.utf8_is_unicodes.Goals as goal

pub returns : goal.returns
returns c = Utf8.utf8_is_unicodes
