use Rattle.std.proofs.Common.{◌≡◌, ◌-◌}
use Rattle.passes.specs.Account.{unfit}
use Rattle.passes.specs.State.{bound_of}
use Rattle.passes.proofs.roots.RootState.check_elements.Given as goal

-- the slots before this one fit
abbrev pub invariant-loop-slot : goal.invariant-loop-slot
invariant-loop-slot l =
    unfit l.fn.layout (bound_of l.fn.self).elements 0 l.fn.layout.total_root_elements
    ≡ unfit l.fn.layout (bound_of l.fn.self).elements l.slot (l.fn.layout.total_root_elements - l.slot)
