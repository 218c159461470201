use Rattle.std.proofs.Common.{◌≡◌, drop}
use Rattle.encoder.specs.Opening.{no_target}
use Rattle.encoder.proofs.opening.check_targets.Given as goal

-- the targets before this one are handles
abbrev pub invariant-loop-place : goal.invariant-loop-place
invariant-loop-place l = no_target 0 l.fn.null_target l.fn.attachments ≡ no_target l.place l.fn.null_target (drop l.place l.fn.attachments)
