use Rattle.std.proofs.Common.{refl}
use Rattle.passes.specs.State.{view_of, no_buffer}
use Rattle.device.proofs.Arrays.{read_replicate}
use Rattle.passes.proofs.Slots.{mask_none}
use Rattle.passes.proofs.vertices.VertexState.new.Goals as goal

pub returns : goal.returns
returns c = λ i. record { views = λ k. view_of (read_replicate 16 no_buffer no_buffer refl k i); touched = mask_none i }
