-- Worked plots: calls of an encoder, and what they come to by the definitions that the calls' contracts cite.
use Rattle.std.specs.Prelude.{◌≡◌, ℕ, ◌-◌, Bool, true, false, cond, List, [], ◌∷◌, Some, None, negsuc}
use Rattle.command_list.specs.declared.command.Half.TheVariants.{Graphics}
use Rattle.command_list.specs.Commands.{Command, BeginEvent, SetDescriptorHeaps, SetRootSignature, SetPipelineState, IASetPrimitiveTopology, IASetVertexBuffers, SetRoot32BitConstant, SetRootDescriptorTable, SetRootConstantBufferView, ResourceBarrier, DrawInstanced, ExecuteIndirect, record_of}
use Rattle.device.specs.Devices.{play, start}
use Rattle.device.specs.Meaning.{Meaning, sizes, shown_more}
use Rattle.layouts.specs.declared.layout.PipelineLayout.{PipelineLayout}
use Rattle.layouts.specs.declared.pipeline.RenderPipeline.{RenderPipeline}
use Rattle.bindings.specs.declared.binding.BufferBinding.{BufferBinding}
use Rattle.resources.specs.Usages.{buffer}
use Rattle.resources.specs.Barriers.{Change}
use Rattle.resources.specs.Barriers as barriers
use Rattle.passes.specs.declared.element.RootElement.TheVariants.{SpecialConstants}
use Rattle.passes.specs.Account.{opened}
use Rattle.passes.specs.Calls.{set_bind_group, set_render_pipeline, set_vertex_buffer, draw, draw_indirect}
use Rattle.encoder.specs.Opening.{compute_pass, transition}
use Rattle.encoder.specs.Scenes.{Call, opening, quiet, set, drawing, Stage, recording, in_pass, account_of, next, records, start_of, Answer, taken, refused, not_offered, is_taken, verdict, Scene, Does}
use Rattle.encoder.specs.declared.state.ListState.{ListState}
use Rattle.encoder.specs.Phases.{scene}

-- what a call comes to: its commands, or a refusal
pub data Outcome : Type 0 where
  makes : List Command → Outcome
  refuses : ℕ → ℕ → Outcome
  passed_over : Outcome

abbrev pub come_to : Answer → List Command → Outcome
come_to taken cs = makes cs
come_to (refused w) cs = refuses w.number w.place
come_to not_offered cs = passed_over

-- what a recorder means behind commands, which used exactly their bytes, as they do in list bytes
abbrev pub spent : List Command → Meaning → Meaning
spent cs m = record m { device = play cs m.device; space = m.space - sizes cs; shown = shown_more cs m.shown }

-- the scene behind a call
abbrev pub behind : Scene → Call → Scene
behind s c = cond (is_taken (verdict s c)) (scene (next c s.stage) s.own (spent (records s.own c (account_of s.stage)) (start_of c s.meaning))) s

-- what calls come to, one after the other
abbrev pub outcomes : Scene → List Call → List Outcome
outcomes s [] = []
outcomes s (c ∷ cs) = come_to (verdict s c) (records s.own c (account_of s.stage)) ∷ outcomes (behind s c) cs

-- the scene behind calls
abbrev pub behind_all : Scene → List Call → Scene
behind_all s [] = s
behind_all s (c ∷ cs) = behind_all (behind s c) cs

-- a plot: where an encoder stands, the bytes that its recorder has left, calls, and what they come to
pub record Plot : Type 0 where
  pub stage : Stage
  pub space : ℕ
  pub calls : List Call
  pub outcome : List Outcome

-- what the lists of the plots have beside their recorder: no null target
abbrev pub beside : ListState
beside = record { null_target = 0 }

abbrev pub empty : ℕ → Meaning
empty n = record { device = start; space = n; made = n; shown = Some [] }

-- a layout of signature 5 with three slots: group 0 at slot 0 with a table and one uniform, and special constants at slot 2
pub record IsPlotted (own : Bool) (k : PipelineLayout) : Type 0 where
  pub signature : k.signature ≡ 5
  pub total : k.total_root_elements ≡ 3
  pub special : k.special_constants ≡ Some (record { root_index = 2; own_signature = own })
  pub immediates : k.immediates_info ≡ None
  pub groups : k.bind_group_infos ≡ (Some (record { base_root_index = 0; table = true; uniforms = 1 }) ∷ None ∷ None ∷ None ∷ None ∷ None ∷ None ∷ None ∷ [])

-- pipeline 9 of a layout, with stride 16 at vertex slot 0
abbrev pub pipeline : PipelineLayout → RenderPipeline
pipeline k = record { handle = 9; layout = k; topology = 4; vertex_strides = Some 16 ∷ None ∷ None ∷ None ∷ None ∷ None ∷ None ∷ None ∷ None ∷ None ∷ None ∷ None ∷ None ∷ None ∷ None ∷ None ∷ [] }

abbrev pub samples : BufferBinding
samples = record { buffer = record { address = 1048576; size = 4096 }; offset = 0; size = 0 }

abbrev pub set_pipeline : PipelineLayout → Call
set_pipeline k = set (set_render_pipeline (pipeline k))

abbrev pub set_samples : Call
set_samples = set (set_vertex_buffer 0 samples)

-- group 0: table 4096, uniform 65536 + 256
abbrev pub set_group : PipelineLayout → Call
set_group k = set (set_bind_group k 0 4096 (65536 ∷ []) (256 ∷ []))

-- three vertices from a first one, one instance from 0
abbrev pub curve : ℕ → Call
curve first = drawing (draw first 3 0 1)

abbrev pub render : Stage
render = in_pass (opened Graphics false)

-- ---- what they record

abbrev pub signed : Outcome
signed = makes (SetRootSignature Graphics 5 ∷ SetPipelineState 9 ∷ IASetPrimitiveTopology 4 ∷ [])

abbrev pub nothing : Outcome
nothing = makes []

-- a draw's own constants, and the draw
abbrev pub with_constants : ℕ → List Command
with_constants first = SetRoot32BitConstant Graphics 2 0 first ∷ SetRoot32BitConstant Graphics 2 1 0 ∷ DrawInstanced 3 1 first 0 ∷ []

-- the first draw of a pass: 81 bytes
abbrev pub whole : ℕ → List Command
whole first = IASetVertexBuffers 0 1048576 4096 16 ∷ SetRootDescriptorTable Graphics 0 4096 ∷ SetRootConstantBufferView Graphics 1 65792 ∷ with_constants first

abbrev pub change : ℕ → ℕ → Call
change from to = quiet (transition (record { resource = 7; from = buffer from; to = buffer to } ∷ []) 16 0)

-- ---- the plots

-- a draw from 7, the same again, one from 8, and one from the greatest first vertex
abbrev pub curves : PipelineLayout → Plot
curves k = record {
  stage = render;
  space = 1000;
  calls = set_pipeline k ∷ set_samples ∷ set_group k ∷ curve 7 ∷ curve 7 ∷ curve 8 ∷ curve 4294967295 ∷ [];
  outcome = signed ∷ nothing ∷ nothing ∷ makes (whole 7) ∷ makes (DrawInstanced 3 1 7 0 ∷ []) ∷ makes (with_constants 8) ∷ makes (with_constants 4294967295) ∷ [];
}

-- 81 bytes suffice for the first draw behind the pipeline's 21, and 80 do not
abbrev pub just_enough : PipelineLayout → Plot
just_enough k = record {
  stage = render;
  space = 102;
  calls = set_pipeline k ∷ set_samples ∷ set_group k ∷ curve 7 ∷ [];
  outcome = signed ∷ nothing ∷ nothing ∷ makes (whole 7) ∷ [];
}

abbrev pub one_byte_short : PipelineLayout → Plot
one_byte_short k = record {
  stage = render;
  space = 101;
  calls = set_pipeline k ∷ set_samples ∷ set_group k ∷ curve 7 ∷ [];
  outcome = signed ∷ nothing ∷ nothing ∷ refuses 10 0 ∷ [];
}

-- with a command signature of its own: behind an indirect draw the constants are written again
abbrev pub markers : PipelineLayout → Plot
markers k = record {
  stage = render;
  space = 1000;
  calls = set_pipeline k ∷ set_samples ∷ set_group k ∷ curve 7 ∷ drawing (draw_indirect 33 0 1) ∷ curve 7 ∷ [];
  outcome = signed ∷ nothing ∷ nothing ∷ makes (whole 7) ∷ makes (ExecuteIndirect Graphics (Some 2) 1 33 0 ∷ []) ∷ makes (with_constants 7) ∷ [];
}

-- the group first, and then the pipeline: its root signature is set all the same
abbrev pub group_first : PipelineLayout → Plot
group_first k = record { stage = render; space = 1000; calls = set_group k ∷ set_pipeline k ∷ []; outcome = nothing ∷ signed ∷ [] }

-- a draw without its group
abbrev pub no_group : PipelineLayout → Plot
no_group k = record { stage = render; space = 1000; calls = set_pipeline k ∷ set_samples ∷ curve 7 ∷ []; outcome = signed ∷ nothing ∷ refuses 8 0 ∷ [] }

-- a copy's target becomes vertices; storage is put in order; a usage that stays needs nothing
abbrev pub changes : Plot
changes = record {
  stage = recording;
  space = 1000;
  calls = change 2 8 ∷ change 64 64 ∷ change 65 65 ∷ [];
  outcome = makes (ResourceBarrier (barriers.transition 7 0x400 0x1 ∷ []) ∷ []) ∷ makes (ResourceBarrier (barriers.uav 7 ∷ []) ∷ []) ∷ nothing ∷ [];
}

-- a pass with the label of a small e with an acute accent
abbrev pub labelled : Plot
labelled = record { stage = recording; space = 1000; calls = opening (compute_pass (Some (0xC3 ∷ 0xA9 ∷ []))) ∷ []; outcome = makes (BeginEvent (0xE9 ∷ 0 ∷ []) ∷ SetDescriptorHeaps true ∷ []) ∷ [] }

abbrev pub plots : PipelineLayout → PipelineLayout → List Plot
plots k own = curves k ∷ just_enough k ∷ one_byte_short k ∷ markers own ∷ group_first k ∷ no_group k ∷ changes ∷ labelled ∷ []

abbrev pub Come_true : List Plot → Type 0
Come_true [] = Unit {0}
Come_true (p ∷ ps) = (outcomes (scene p.stage beside (empty p.space)) p.calls ≡ p.outcome) × Come_true ps

pub record WorkedPlots : Type 0 where
  -- what a call comes to is what the contracts say that it does
  pub does : (s : Scene) (c : Call) → Does s c (verdict s c) (behind s c)
  pub plots_are : (k own : PipelineLayout) → IsPlotted false k → IsPlotted true own → Come_true (plots k own)
  -- behind a draw from the greatest first vertex the special element says -1
  pub minus_one : (k : PipelineLayout) → IsPlotted false k
      → (account_of (behind_all (scene (curves k).stage beside (empty (curves k).space)) (curves k).calls).stage).roots.elements 2 ≡ SpecialConstants (record { first_vertex_or_x = negsuc 0; first_instance_or_y = 0; unused_or_z = 0 })
  -- the bytes of the first draw, of the same again and of one from another vertex, and those of the label
  pub first_size : sizes (whole 7) ≡ 81
  pub again_size : sizes (DrawInstanced 3 1 7 0 ∷ []) ≡ 19
  pub other_size : sizes (with_constants 8) ≡ 37
  pub label_bytes : record_of (BeginEvent (0xE9 ∷ 0 ∷ [])) ≡ (0x00 ∷ 0x05 ∷ 0x01 ∷ 0x00 ∷ 0xE9 ∷ 0x00 ∷ 0x00 ∷ [])
