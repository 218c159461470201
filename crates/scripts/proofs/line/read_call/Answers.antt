use Rattle.std.proofs.Common.{refl}
use Rattle.scripts.proofs.Others.{differs}
use Rattle.scripts.proofs.line.read_call.Goals as goal

pub returns-in_default : goal.returns-in_default
returns-in_default c = simp (
  differs _ c.args.verb c.in_default.not-begin_encoding,
  differs _ c.args.verb c.in_default.not-end_encoding,
  differs _ c.args.verb c.in_default.not-discard_encoding,
  differs _ c.args.verb c.in_default.not-transition_buffers,
  differs _ c.args.verb c.in_default.not-transition_textures,
  differs _ c.args.verb c.in_default.not-begin_render_pass,
  differs _ c.args.verb c.in_default.not-end_render_pass,
  differs _ c.args.verb c.in_default.not-begin_compute_pass,
  differs _ c.args.verb c.in_default.not-end_compute_pass,
  differs _ c.args.verb c.in_default.not-set_bind_group,
  differs _ c.args.verb c.in_default.not-set_immediates,
  differs _ c.args.verb c.in_default.not-set_render_pipeline,
  differs _ c.args.verb c.in_default.not-set_compute_pipeline,
  differs _ c.args.verb c.in_default.not-set_vertex_buffer,
  differs _ c.args.verb c.in_default.not-set_viewport,
  differs _ c.args.verb c.in_default.not-set_scissor_rect,
  differs _ c.args.verb c.in_default.not-draw,
  differs _ c.args.verb c.in_default.not-draw_indirect,
  differs _ c.args.verb c.in_default.not-dispatch_workgroups,
  differs _ c.args.verb c.in_default.not-dispatch_workgroups_indirect,
) refl
