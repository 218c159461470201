use Rattle.std.proofs.Common.{arith}
use Rattle.passes.specs.declared.element.RootElement.TheVariants.{Empty}
use Rattle.passes.specs.State.{bound_of}
use Rattle.device.proofs.Arrays.{read_set}
use Rattle.passes.proofs.Slots.{mask_with}
use Rattle.passes.proofs.roots.RootState.fill.Goals as goal

pub returns : goal.returns
returns c =
    let s = c.args.self.now in
    let elements = read_set (λ x. x) s.root_elements c.args.slot c.args.element Empty (omega (arith, c.requires)) in
    let touched = mask_with 64 s.dirty_root_elements c.args.slot c.requires in
    λ i. record (bound_of s) { elements = elements i; touched = touched i }
