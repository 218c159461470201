use Rattle.std.proofs.Common.{slice_index_or, arith}
use Rattle.passes.specs.State.{view_of, no_buffer}
use Rattle.device.proofs.Arrays.{read_set}
use Rattle.passes.proofs.Slots.{mask_with}
use Rattle.passes.proofs.vertices.VertexState.rebase.Goals as goal

pub returns : goal.returns
returns c =
    let s = c.args.self.now in
    let k = c.args.slot in
    let views = read_set view_of s.vertex_buffers k (record { address = c.args.address; size = c.args.size; stride = (slice_index_or s.vertex_buffers k no_buffer).stride }) no_buffer (omega (arith, c.requires)) in
    let touched = mask_with 16 s.dirty_vertex_buffers k (omega (arith, c.requires)) in
    λ i. record { views = views i; touched = touched i }
