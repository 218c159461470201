use Rattle.std.proofs.Common.{◌≡◌, sym, subst, Decides, rules}
use Rattle.layouts.specs.Equal.{same_layout}
use Rattle.layouts.proofs.SameLayouts.{layout_decides}
use Rattle.layouts.proofs.layout.PipelineLayoutPartialEq.eq.Goals as goal

pub returns-then-eq-3-clause-equal : goal.returns-then-eq-3-clause-equal
returns-then-eq-3-clause-equal c =
    let test : c.eq-then-eq-3.result ≡ same_layout c.args.self.now c.args.other.now = search rules in
    subst (λ b. Decides b (c.args.self.now ≡ c.args.other.now)) (sym test) (layout_decides c.args.self.now c.args.other.now)
