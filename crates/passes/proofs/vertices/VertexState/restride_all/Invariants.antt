use Rattle.std.proofs.Common.{◌≡◌}
use Rattle.passes.specs.Account.{strided, strides_of}
use Rattle.passes.specs.State.{views_of}
use Rattle.passes.proofs.Strides.{below}
use Rattle.passes.proofs.vertices.VertexState.restride_all.Given as goal

abbrev pub invariant-loop-slot : goal.invariant-loop-slot
invariant-loop-slot l = views_of l.self ≡ strided (below l.slot (strides_of l.fn.strides)) (views_of l.fn.self)
