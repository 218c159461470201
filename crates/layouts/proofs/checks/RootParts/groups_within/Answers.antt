use Rattle.std.proofs.Common.{◌∙◌, rules, tests}
use Rattle.std.proofs.lemmas.Iterator.{YieldsList-from_slice}
use Rattle.std.proofs.lemmas.Iterator.Search.{all_from_yields_List}
use Rattle.layouts.specs.Owners.{group_within}
use Rattle.layouts.proofs.Steps.{all_within}
use Rattle.layouts.proofs.checks.RootParts.groups_within.Goals as goal

pub returns : goal.returns
returns c =
    all_from_yields_List (group_within c.args.total) _ _ _ c.all.ensures.ran (YieldsList-from_slice c.args.self.now.groups cc) (λ x b q k. search (rules, tests))
    ∙ all_within c.args.total c.args.self.now.groups
