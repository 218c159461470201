use Rattle.std.proofs.Common.{not, sym, ◌∙◌}
use Rattle.std.proofs.lemmas.Iterator.{YieldsList-from_slice}
use Rattle.std.proofs.lemmas.Iterator.Search.{position_from_yields_List}
use Rattle.resources.specs.Listed.{change_of}
use Rattle.resources.proofs.Firsts.{first_position}
use Rattle.resources.proofs.batch.check_first.Goals as goal

pub returns-in-Some : goal.returns-in-Some
returns-in-Some g c = λ good k.
    let p = position_from_yields_List (λ b. not (good (change_of g.U.Uses.usage b))) _ _ c.position.result c.position.ensures.ran (YieldsList-from_slice c.args.list.now cc) k in
    let f = p ∙ first_position g.U.Uses.usage good c.args.list.now in
    rw (sym f, c.in-Some.is, c.at.ensures.0, c.at.ensures.1)

pub returns-in-None : goal.returns-in-None
returns-in-None g c = λ good k.
    let p = position_from_yields_List (λ b. not (good (change_of g.U.Uses.usage b))) _ _ c.position.result c.position.ensures.ran (YieldsList-from_slice c.args.list.now cc) k in
    let f = p ∙ first_position g.U.Uses.usage good c.args.list.now in
    rw (sym f, c.in-None.is)
