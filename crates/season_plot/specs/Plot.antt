-- The season plot: its calls, and the commands that they come to.
use Rattle.std.specs.Prelude.{◌≡◌, ℕ, ◌+◌, ◌/◌, nat_le, ◌&&◌, Bool, IsTrue, true, false, List, [], ◌∷◌, ◌++◌, Some, None, Option, option_map}
use Rattle.command_list.specs.declared.command.Barrier.{Barrier}
use Rattle.command_list.specs.declared.command.BarrierType.TheVariants.{Transition}
use Rattle.command_list.specs.declared.command.Half.TheVariants.{Graphics}
use Rattle.command_list.specs.Commands.{Command, BeginEvent, EndEvent, SetDescriptorHeaps, SetRootSignature, SetPipelineState, IASetPrimitiveTopology, IASetVertexBuffers, SetRoot32BitConstant, SetRootDescriptorTable, SetRootConstantBufferView, OMSetRenderTargets, ClearRenderTargetView, RSSetViewports, RSSetScissorRects, ResourceBarrier, DrawInstanced, ExecuteIndirect}
use Rattle.bindings.specs.declared.binding.BufferBinding.{BufferBinding}
use Rattle.layouts.specs.declared.layout.PipelineLayout.{PipelineLayout}
use Rattle.layouts.specs.declared.pipeline.RenderPipeline.{RenderPipeline}
use Rattle.resources.specs.Usages.{buffer}
use Rattle.encoder.specs.declared.attachment.ColorAttachment.{ColorAttachment}
use Rattle.passes.specs.Calls.{set_bind_group, set_render_pipeline, set_vertex_buffer, draw, draw_indirect}
use Rattle.encoder.specs.Opening.{render_pass, transition}
use Rattle.encoder.specs.Scenes.{Call, begin_encoding, end_encoding, opening, ending, quiet, set, drawing, idle}
use Rattle.encoder.specs.Phases.{scene}
use Rattle.runs.specs.Worked.{Outcome, makes, refuses, passed_over, outcomes, beside, empty, IsPlotted}

-- pipeline 9 of a layout, which draws line strips, with stride 16 at vertex slot 0
abbrev pub plot_pipeline : PipelineLayout → RenderPipeline
plot_pipeline k = record {
  handle = 9;
  layout = k;
  topology = 3;
  vertex_strides = Some 16 ∷ None ∷ None ∷ None ∷ None ∷ None ∷ None ∷ None
      ∷ None ∷ None ∷ None ∷ None ∷ None ∷ None ∷ None ∷ None ∷ [];
}

-- a small e with an acute accent, and the final 0
abbrev pub plot_label : List ℕ
plot_label = 0xE9 ∷ 0 ∷ []

-- resource 7 passes from the target of a copy to vertices
abbrev pub plot_upload : Barrier
plot_upload = record {
  kind = Transition;
  resource = 7;
  subresource = 0xFFFF_FFFF;
  before = 0x400;
  after = 0x1;
}

-- a whole buffer of so many bytes
abbrev pub whole_buffer : ℕ → ℕ → BufferBinding
whole_buffer address size = record {
  buffer = record { address = address; size = size };
  offset = 0;
  size = 0;
}

-- the vertices of a line, at vertex slot 0
abbrev pub vertices_at : ℕ → ℕ → Call
vertices_at address size = set (set_vertex_buffer 0 (whole_buffer address size))

-- the axes: 3 vertices of 16 bytes
abbrev pub axes : Call
axes = vertices_at 524288 48

-- a gauge's samples: 512 vertices of 16 bytes
abbrev pub samples_at : ℕ → Call
samples_at address = vertices_at address 8192

-- a line through so many samples, from a first one on
abbrev pub line_from : ℕ → ℕ → Call
line_from first count = drawing (draw first count 0 1)

-- the pass's target, which is cleared to white
abbrev pub target : ColorAttachment
target = record {
  target = 1;
  ops = 2;
  clear_value = 0x3F80_0000 ∷ 0x3F80_0000 ∷ 0x3F80_0000 ∷ 0x3F80_0000 ∷ [];
}

-- the upload, over a scratch of so many entries, filled so far; then a pass under a label with a
-- cleared target: the axes, a curve from sample 7, the flood's markers from a buffer, and another
-- gauge's curve, from sample 7 too
abbrev pub plot_calls : ℕ → ℕ → RenderPipeline → List Call
plot_calls len fill p =
    begin_encoding
    ∷ quiet (transition (record { resource = 7; from = buffer 2; to = buffer 8 } ∷ []) len fill)
    ∷ opening (render_pass (Some (0xC3 ∷ 0xA9 ∷ [])) 640 480 (Some target ∷ []))
    ∷ set (set_render_pipeline p)
    ∷ set (set_bind_group p.layout 0 4096 (65536 ∷ []) (256 ∷ []))
    ∷ axes
    ∷ line_from 0 3
    ∷ samples_at 1048576
    ∷ line_from 7 360
    ∷ drawing (draw_indirect 8 0 4)
    ∷ samples_at 2097152
    ∷ line_from 7 360
    ∷ ending Graphics
    ∷ end_encoding
    ∷ []

-- the commands: the special constants are at root slot 2, and behind the markers they are written
-- again
abbrev pub plot_commands : List Barrier → List ℕ → List Command
plot_commands upload label =
    ResourceBarrier upload
    ∷ BeginEvent label
    ∷ SetDescriptorHeaps true
    ∷ OMSetRenderTargets (1 ∷ [])
    ∷ ClearRenderTargetView 1 0x3F80_0000 0x3F80_0000 0x3F80_0000 0x3F80_0000
    ∷ RSSetViewports 0 0 0x4420_0000 0x43F0_0000 0 0x3F80_0000
    ∷ RSSetScissorRects 0 0 640 480
    ∷ SetRootSignature Graphics 5
    ∷ SetPipelineState 9
    ∷ IASetPrimitiveTopology 3
    ∷ IASetVertexBuffers 0 524288 48 16
    ∷ SetRootDescriptorTable Graphics 0 4096
    ∷ SetRootConstantBufferView Graphics 1 65792
    ∷ SetRoot32BitConstant Graphics 2 0 0
    ∷ SetRoot32BitConstant Graphics 2 1 0
    ∷ DrawInstanced 3 1 0 0
    ∷ IASetVertexBuffers 0 1048576 8192 16
    ∷ SetRoot32BitConstant Graphics 2 0 7
    ∷ SetRoot32BitConstant Graphics 2 1 0
    ∷ DrawInstanced 360 1 7 0
    ∷ ExecuteIndirect Graphics (Some 2) 4 8 0
    ∷ IASetVertexBuffers 0 2097152 8192 16
    ∷ SetRoot32BitConstant Graphics 2 0 7
    ∷ SetRoot32BitConstant Graphics 2 1 0
    ∷ DrawInstanced 360 1 7 0
    ∷ SetDescriptorHeaps false
    ∷ EndEvent
    ∷ []

-- the commands of all calls, if each is accepted
abbrev pub all_made : List Outcome → Option (List Command)
all_made [] = Some []
all_made (makes cs ∷ os) = option_map (λ ds. cs ++ ds) (all_made os)
all_made (refuses n p ∷ os) = None
all_made (passed_over ∷ os) = None

-- of an encoder whose recorder has just enough space for the plot, and a scratch of one entry, each
-- call is accepted, and together they record the plot's commands
abbrev pub PlotIsRecorded : Type 0
PlotIsRecorded = (k : PipelineLayout) → IsPlotted true k
    → all_made (outcomes (scene idle beside (empty 360)) (plot_calls 1 0 (plot_pipeline k)))
    ≡ Some (plot_commands (plot_upload ∷ []) plot_label)

-- whether each direct draw finds its vertices in the vertex buffer that was set last; at the start
-- one with so many is set
abbrev pub has_vertices : ℕ → List Command → Bool
has_vertices held [] = true
has_vertices held (IASetVertexBuffers slot address size stride ∷ cs) =
    has_vertices (size / stride) cs
has_vertices held (DrawInstanced count instances first first_instance ∷ cs) =
    nat_le (first + count) held && has_vertices held cs
has_vertices held (_ ∷ cs) = has_vertices held cs

-- each direct draw of the plot finds its vertices
abbrev pub DrawsHaveVertices : Type 0
DrawsHaveVertices = (upload : List Barrier) (label : List ℕ)
    → IsTrue (has_vertices 0 (plot_commands upload label))
