-- What each call of an encoder does.
use Rattle.std.specs.Prelude.{◌≡◌, Bool, true, false, cond, List, [], Some, None, Option, nat_le}
use Rattle.command_list.specs.declared.command.Half.{Half}
use Rattle.command_list.specs.declared.command.Half.TheVariants.{Graphics, Compute}
use Rattle.command_list.specs.Commands.{Command}
use Rattle.device.specs.Devices.{start}
use Rattle.device.specs.Meaning.{Meaning, Recorded, sizes, cleared}
use Rattle.passes.specs.Account.{Account, opened}
use Rattle.passes.specs.Calls.{SetCall, set_bind_group, set_immediates, set_render_pipeline, set_compute_pipeline, set_vertex_buffer, DrawCall, draw, draw_indirect, dispatch, dispatch_indirect, after_set, set_records, asks_set, after_draw, draw_records, asks_draw}
use Rattle.encoder.specs.declared.state.ListState.{ListState}
use Rattle.encoder.specs.Opening.{Opening, half_of, label_of, is_labelled, opening_records, ending_records, asks_opening, QuietCall, transition, set_viewport, set_scissor_rect, quiet_records, asks_quiet}
use Rattle.command_list.specs.Refusals.{Why, fault}

-- the calls, by their kinds
pub data Call : Type 0 where
  begin_encoding end_encoding discard_encoding : Call
  opening : Opening → Call
  -- of a render pass or of a compute pass
  ending : Half → Call
  quiet : QuietCall → Call
  set : SetCall → Call
  drawing : DrawCall → Call

-- where an encoder stands
pub data Stage : Type 0 where
  idle recording : Stage
  in_pass : Account → Stage

abbrev pub account_of : Stage → Account
account_of idle = opened Graphics false
account_of recording = opened Graphics false
account_of (in_pass a) = a

-- which set calls, draws and quiet calls each kind of pass has
abbrev pub pass_sets : Half → SetCall → Bool
pass_sets h (set_bind_group l i t bs os) = true
pass_sets h (set_immediates l at ws) = true
pass_sets Graphics (set_render_pipeline p) = true
pass_sets Graphics (set_vertex_buffer i x) = true
pass_sets Compute (set_compute_pipeline p) = true
pass_sets _ _ = false

abbrev pub pass_draws : Half → DrawCall → Bool
pass_draws Graphics (draw first count instance instances) = true
pass_draws Graphics (draw_indirect buffer offset count) = true
pass_draws Compute (dispatch x y z) = true
pass_draws Compute (dispatch_indirect buffer offset) = true
pass_draws _ _ = false

abbrev pub pass_quiets : Half → QuietCall → Bool
pass_quiets Graphics (set_viewport x y w h low high) = true
pass_quiets Graphics (set_scissor_rect x y w h) = true
pass_quiets Compute (transition cs len fill) = true
pass_quiets _ _ = false

-- which quiet calls a list has outside of passes
abbrev pub list_quiets : QuietCall → Bool
list_quiets (transition cs len fill) = true
list_quiets _ = false

abbrev pub same_half : Half → Half → Bool
same_half Graphics Graphics = true
same_half Compute Compute = true
same_half _ _ = false

-- which calls each stage offers
abbrev pub offers : Stage → Call → Bool
offers idle begin_encoding = true
offers recording end_encoding = true
offers recording discard_encoding = true
offers recording (opening o) = true
offers recording (quiet q) = list_quiets q
offers (in_pass a) discard_encoding = true
offers (in_pass a) (ending h) = same_half h a.half
offers (in_pass a) (quiet q) = pass_quiets a.half q
offers (in_pass a) (set c) = pass_sets a.half c
offers (in_pass a) (drawing c) = pass_draws a.half c
offers _ _ = false

-- the stage after an accepted call
abbrev pub next : Call → Stage → Stage
next begin_encoding s = recording
next end_encoding s = idle
next discard_encoding s = idle
next (opening o) s = in_pass (opened (half_of o) (is_labelled (label_of o)))
next (ending h) s = recording
next (quiet q) s = s
next (set c) s = in_pass (after_set c (account_of s))
next (drawing c) s = in_pass (after_draw c (account_of s))

-- the commands that an accepted call records
abbrev pub records : ListState → Call → Account → List Command
records own (opening o) a = opening_records own.null_target o
records own (ending h) a = ending_records a.labelled
records own (quiet q) a = quiet_records q
records own (set c) a = set_records c a
records own (drawing c) a = draw_records c a
records own _ a = []

-- the checks of a call but for the space: the first failure
abbrev pub asks : ListState → Call → Account → Option Why
asks own (opening o) a = asks_opening own.null_target o
asks own (quiet q) a = asks_quiet q
asks own (set c) a = asks_set c a.roots.layout
asks own (drawing c) a = asks_draw c a
asks own _ a = None

-- a recorder that was started anew
abbrev pub anew : Meaning → Meaning
anew m = record m { device = start; space = m.made; shown = cleared m.shown }

-- what the recorder starts a call from: the beginning of a list starts it anew
abbrev pub start_of : Call → Meaning → Meaning
start_of begin_encoding m = anew m
start_of _ m = m

-- what a call is answered
pub data Answer : Type 0 where
  taken : Answer
  refused : Why → Answer
  not_offered : Answer

abbrev pub is_taken : Answer → Bool
is_taken taken = true
is_taken _ = false

-- the first failure, and last whether the whole call fits the space
abbrev pub judged : Option Why → Bool → Answer
judged (Some w) fits = refused w
judged None fits = cond fits taken (refused (fault 10 0))

-- an encoder: its stage, what its list has beside the recorder, and what the recorder means
pub record Scene : Type 0 where
  pub stage : Stage
  pub own : ListState
  pub meaning : Meaning

unfoldable pub verdict : Scene → Call → Answer
verdict s c =
    cond (offers s.stage c)
    (judged (asks s.own c (account_of s.stage))
    (nat_le (sizes (records s.own c (account_of s.stage))) (start_of c s.meaning).space))
    not_offered

-- what a call does, from s to t, with its answer
pub record Does (s : Scene) (c : Call) (a : Answer) (t : Scene) : Type 0 where
  pub answer : a ≡ verdict s c
  pub refused : is_taken a ≡ false → t ≡ s
  pub own : t.own ≡ s.own
  pub stage : is_taken a ≡ true → t.stage ≡ next c s.stage
  pub recorded : is_taken a ≡ true
      → Recorded (start_of c s.meaning) (records s.own c (account_of s.stage)) t.meaning
