use Rattle.std.proofs.Common.{refl, arith}
use Rattle.passes.specs.State.{bound_of, views_of}
use Rattle.encoder.proofs.Coming.{put_recorded, put_after}
use Rattle.encoder.proofs.Flushes.{mask_below, first_fits, second_fits, both_walked}
use Rattle.encoder.proofs.flush.flush_pass.Goals as goal

pub flush-requires-clause-within : goal.flush-requires-clause-within
flush-requires-clause-within g c = mask_below 16 c.args.pass.now.vertices.dirty_vertex_buffers _ c.from.ensures (omega arith)

pub flush-requires-clause-fits : goal.flush-requires-clause-fits
flush-requires-clause-fits g c =
    let p = c.args.pass.now in
    first_fits p.kind (bound_of p.roots) (views_of p.vertices).views p.vertices.dirty_vertex_buffers _ c.from.ensures (omega arith) _ c.requires

pub flush-requires-2-clause-within : goal.flush-requires-2-clause-within
flush-requires-2-clause-within g c = mask_below 64 c.args.pass.now.roots.dirty_root_elements _ refl (omega arith)

pub flush-requires-2-clause-fits : goal.flush-requires-2-clause-fits
flush-requires-2-clause-fits g c =
    let p = c.args.pass.now in
    second_fits p.kind (bound_of p.roots) (views_of p.vertices).views p.vertices.dirty_vertex_buffers _ c.from.ensures (omega arith) _ _ c.requires (put_recorded _ _ _ _ c.flush.ensures)

pub returns : goal.returns
returns g c =
    let p = c.args.pass.now in
    put_after _ _ _ _ _ c.flush-2.result
    (both_walked p.kind (bound_of p.roots) (views_of p.vertices).views p.vertices.dirty_vertex_buffers _ c.from.ensures (omega arith) _ _ _ (put_recorded _ _ _ _ c.flush.ensures))
    c.flush-2.ensures
