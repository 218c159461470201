use Rattle.std.proofs.Common.{not, sym, ap, ◌∙◌, slice_index_or, arith}
use Rattle.std.proofs.lemmas.Bool.{ne_eqb}
use Rattle.passes.specs.Account.{strided, only_at}
use Rattle.passes.specs.State.{view_of, views_of, no_buffer}
use Rattle.device.proofs.Arrays.{read_set}
use Rattle.passes.proofs.Slots.{mask_with}
use Rattle.passes.proofs.Strides.{strided_one}
use Rattle.passes.proofs.vertices.VertexState.restride.Goals as goal

pub returns-then-view-stride : goal.returns-then-view-stride
returns-then-view-stride c =
    let s = c.args.self.now in
    let k = c.args.slot in
    let old = slice_index_or s.vertex_buffers k no_buffer in
    let views = read_set view_of s.vertex_buffers k (record { address = old.address; size = old.size; stride = c.in-Some.stride }) no_buffer (omega (arith, c.requires)) in
    let touched = mask_with 16 s.dirty_vertex_buffers k (omega (arith, c.requires)) in
    (λ i. record { views = views i; touched = touched i }) ∙ strided_one k c.in-Some.stride (views_of s) (ap not (ne_eqb c.in-Some.stride old.stride (λ e. c.if-view-stride.true (sym e)))) ∙ sym (ap (λ o. strided (only_at k o) (views_of s)) c.in-Some.is)
