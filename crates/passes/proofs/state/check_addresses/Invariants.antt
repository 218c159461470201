use Rattle.std.proofs.Common.{◌≡◌, drop}
use Rattle.passes.specs.Calls.{addresses, too_far}
use Rattle.passes.proofs.state.check_addresses.Given as goal

-- the addresses before this one are near
abbrev pub invariant-loop-place : goal.invariant-loop-place
invariant-loop-place l =
    too_far 0 (addresses l.fn.bases l.fn.offsets) ≡ too_far l.place (addresses (drop l.place l.fn.bases) (drop l.place l.fn.offsets))
