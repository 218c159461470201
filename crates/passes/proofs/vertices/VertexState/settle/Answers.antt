use Rattle.passes.specs.State.{views_of}
use Rattle.passes.proofs.Slots.{mask_none}
use Rattle.passes.proofs.vertices.VertexState.settle.Goals as goal

pub returns : goal.returns
returns c = λ i. record (views_of c.args.self.now) { touched = mask_none i }
