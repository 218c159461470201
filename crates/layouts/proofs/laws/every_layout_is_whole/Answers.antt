use Rattle.layouts.proofs.Wholeness.{whole}
use Rattle.layouts.proofs.laws.every_layout_is_whole.Goals as goal

pub returns : goal.returns
returns c = whole
