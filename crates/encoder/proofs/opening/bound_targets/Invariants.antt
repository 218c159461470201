use Rattle.std.proofs.Common.{◌≡◌, length, map, take}
use Rattle.encoder.specs.Opening.{target_of}
use Rattle.encoder.proofs.opening.bound_targets.Given as goal

-- the targets before this one stand in their places
abbrev pub invariant-loop-place : goal.invariant-loop-place
invariant-loop-place l = (length l.targets ≡ 8) × (take l.place l.targets ≡ map (target_of l.fn.null_target) (take l.place l.fn.attachments))
