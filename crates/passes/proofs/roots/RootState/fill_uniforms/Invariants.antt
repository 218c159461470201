use Rattle.std.proofs.Common.{map}
use Rattle.passes.specs.declared.element.RootElement.TheVariants.{DynamicUniformBuffer}
use Rattle.passes.specs.Account.{filled_from}
use Rattle.passes.specs.Calls.{addresses}
use Rattle.passes.specs.State.{bound_of}
use Rattle.passes.proofs.Filling.{Filling}
use Rattle.passes.proofs.roots.RootState.fill_uniforms.Given as goal

abbrev pub invariant-loop-base : goal.invariant-loop-base
invariant-loop-base l =
    Filling (filled_from l.fn.first (map DynamicUniformBuffer (addresses l.fn.bases l.fn.offsets)) (bound_of l.fn.self))
    l.slot l.base-iterator.a.rest.now l.base-iterator.b.rest.now (bound_of l.self)
