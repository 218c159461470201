use Rattle.std.proofs.Common.{◌≡◌, ◌+◌, ◌*◌, ◌≤◌, drop}
use Rattle.device.specs.Meaning.{sizes}
use Rattle.encoder.specs.Opening.{clear_records}
use Rattle.encoder.proofs.opening.clears_size.Given as goal

-- the clears before this one are counted
abbrev pub invariant-loop-place : goal.invariant-loop-place
invariant-loop-place l = (l.size + sizes (clear_records (drop l.place l.fn.attachments)) ≡ sizes (clear_records l.fn.attachments)) × (l.size ≤ 27 * l.place)
