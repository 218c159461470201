use Rattle.std.proofs.Common.{◌≡◌, drop, replicate, None}
use Rattle.scripts.specs.Definitions.{put_strides}
use Rattle.scripts.proofs.definitions.strides.Given as goal

-- the strides put so far, and then those that are left
abbrev pub invariant-loop-stride : goal.invariant-loop-stride
invariant-loop-stride l =
    put_strides (replicate 16 None) l.stride-items
    ≡ put_strides l.strides (drop l.stride-index l.stride-items)
