use Rattle.std.proofs.Common.{length, eqb, ◌∙◌, rules, tests}
use Rattle.std.proofs.lemmas.Iterator.{YieldsList-from_range}
use Rattle.std.proofs.lemmas.Iterator.Search.{all_from_yields_List}
use Rattle.layouts.specs.Owners.{owners}
use Rattle.layouts.proofs.Steps.{all_once}
use Rattle.layouts.proofs.checks.RootParts.once.Goals as goal

pub returns : goal.returns
returns c =
    let f = owners c.args.self.now.special c.args.self.now.immediates c.args.self.now.groups in
    all_from_yields_List (λ k. eqb (length (f k)) 1) _ _ c.all.result c.all.ensures.ran (YieldsList-from_range 0 c.args.total c.args.total (cc) (search rules)) (λ x b q k. search (rules, tests))
    ∙ all_once f c.args.total
