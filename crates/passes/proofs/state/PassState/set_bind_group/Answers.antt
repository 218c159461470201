use Rattle.std.proofs.Common.{sym, ◌∙◌, arith}
use Rattle.passes.proofs.Fitting.{group_below}
use Rattle.passes.proofs.state.PassState.set_bind_group.Goals as goal

pub fill_group-requires-clause-within : goal.fill_group-requires-clause-within
fill_group-requires-clause-within c = λ k low high.
    group_below c.args.layout.now c.args.index c.in-Some.info (sym c.group.ensures.there ∙ c.in-Some.is) k low (omega arith)
