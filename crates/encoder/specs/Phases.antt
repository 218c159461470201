-- The scenes of an encoder's phases. The meaning of their recorder is told.
use Rattle.std.specs.Prelude.{ℕ}
use Rattle.device.specs.Meaning.{Meaning}
use Rattle.passes.specs.State.{account}
use Rattle.encoder.specs.declared.state.ListState.{ListState}
use Rattle.encoder.specs.declared.phase.Idle.{Idle}
use Rattle.encoder.specs.declared.phase.Recording.{Recording}
use Rattle.encoder.specs.declared.phase.RenderPass.{RenderPass}
use Rattle.encoder.specs.declared.phase.ComputePass.{ComputePass}
use Rattle.encoder.specs.Scenes.{Stage, idle, recording, in_pass, Scene}

abbrev pub scene : Stage → ListState → Meaning → Scene
scene s own m = record { stage = s; own = own; meaning = m }

abbrev pub idle_scene : {R : Type 0} → (R → Meaning) → Idle R → Scene
idle_scene m p = scene idle p.own (m p.recorder)

abbrev pub list_scene : {R : Type 0} → (R → Meaning) → Recording R → Scene
list_scene m p = scene recording p.own (m p.recorder)

abbrev pub render_scene : {R : Type 0} → (R → Meaning) → RenderPass R → Scene
render_scene m p = scene (in_pass (account p.pass)) p.own (m p.recorder)

abbrev pub compute_scene : {R : Type 0} → (R → Meaning) → ComputePass R → Scene
compute_scene m p = scene (in_pass (account p.pass)) p.own (m p.recorder)

-- a new encoder with this null target, over a recorder that means m
abbrev pub fresh : ℕ → Meaning → Scene
fresh null_target m = scene idle (record { null_target = null_target }) m
