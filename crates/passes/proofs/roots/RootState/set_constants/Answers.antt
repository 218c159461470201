use Rattle.std.proofs.Common.{ap, ◌∙◌}
use Rattle.passes.specs.declared.element.RootElement.TheVariants.{SpecialConstants}
use Rattle.device.specs.Devices.{update}
use Rattle.passes.specs.Account.{Bound}
use Rattle.passes.specs.State.{bound_of}
use Rattle.passes.proofs.Slots.{update_self, update_back}
use Rattle.passes.proofs.roots.RootState.set_constants.Goals.{then-not-is_constants, else-not-is_constants}
use Rattle.passes.proofs.roots.RootState.set_constants.Goals as goal

pub returns-clause-was : goal.returns-clause-was
returns-clause-was c =
    let b = bound_of c.args.self.now in
    let i = c.in-Some.slot in
    let back : Bound → Bound = λ x. record { layout = x.layout; elements = update x.elements i (b.elements i); immediates = x.immediates; touched = b.touched } in
    elim c.if-not-is_constants.branch [
      | then-not-is_constants w ↦ ap back (ap bound_of w.self-is ∙ w.fill.ensures) ∙ (λ j. record b { elements = update_back b.elements i (SpecialConstants c.args.constants) j })
      | else-not-is_constants w ↦ ap back (ap bound_of w.self-is) ∙ (λ j. record b { elements = update_self b.elements i j })
    ]
