use Rattle.passes.specs.State.{bound_of}
use Rattle.passes.proofs.Slots.{mask_none}
use Rattle.passes.proofs.roots.RootState.settle.Goals as goal

pub returns : goal.returns
returns c = λ i. record (bound_of c.args.self.now) { touched = mask_none i }
