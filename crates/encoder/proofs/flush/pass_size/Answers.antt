use Rattle.std.proofs.Common.{refl, arith}
use Rattle.passes.specs.State.{bound_of, views_of}
use Rattle.encoder.proofs.Flushes.{mask_below, two_sizes}
use Rattle.encoder.proofs.flush.pass_size.Goals as goal

pub flush_size-vertices-requires : goal.flush_size-vertices-requires
flush_size-vertices-requires c = mask_below 16 c.args.pass.now.vertices.dirty_vertex_buffers _ c.from.ensures (omega arith)

pub flush_size-requires : goal.flush_size-requires
flush_size-requires c = mask_below 64 c.args.pass.now.roots.dirty_root_elements _ refl (omega arith)

pub returns-clause-value : goal.returns-clause-value
returns-clause-value c =
    let p = c.args.pass.now in
    two_sizes p.kind (bound_of p.roots) (views_of p.vertices).views p.vertices.dirty_vertex_buffers _ c.from.ensures (omega arith) _ _ c.flush_size-vertices.ensures.value c.flush_size.ensures.value
