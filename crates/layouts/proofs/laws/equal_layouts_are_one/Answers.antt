use Rattle.layouts.proofs.SameLayouts.{layout_decides}
use Rattle.layouts.proofs.laws.equal_layouts_are_one.Goals as goal

pub returns : goal.returns
returns c = layout_decides
