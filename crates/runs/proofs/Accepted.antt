-- What an accepted call keeps: account and device agree, and touched slots are those of the calls since a mark.
use Rattle.std.proofs.Common.{◌≡◌, ℕ, ◌/◌, true, false, cond, List, [], ◌∷◌, Some, None, Option, sym, refl, ap, ◌∙◌, subst}
use Rattle.std.proofs.lemmas.Bool.{true≢false, false≢true}
use Rattle.command_list.specs.declared.command.Half.{Half}
use Rattle.command_list.specs.Commands.{Command, IASetPrimitiveTopology, ExecuteIndirect}
use Rattle.command_list.specs.declared.command.Half.TheVariants.{Graphics, Compute}
use Rattle.device.specs.Devices.{Device, step, play}
use Rattle.device.specs.Meaning.{Meaning}
use Rattle.device.proofs.Runs.{play_append}
use Rattle.device.proofs.Steps.{step_root_writes}
use Rattle.device.proofs.Quiets.{quiet_played}
use Rattle.device.proofs.NoWrites.{Unwritten, still_unwritten, unwritten_then}
use Rattle.layouts.specs.declared.layout.PipelineLayout.{PipelineLayout}
use Rattle.passes.specs.Account.{Account, own_slot}
use Rattle.passes.specs.Calls.{SetCall, set_bind_group, set_immediates, set_render_pipeline, set_compute_pipeline, set_vertex_buffer, addresses, set_roots, set_pipeline, set_records, asks_set, DrawCall, draw, draw_indirect, dispatch, dispatch_indirect, own_constants, prepared, wiped_slot, after_draw, own_command, draw_records, asks_draw}
use Rattle.passes.specs.Flush.{flushed}
use Rattle.encoder.specs.Opening.{half_of, is_labelled, label_of, quiet_records}
use Rattle.encoder.specs.declared.state.ListState.{ListState}
use Rattle.encoder.specs.Scenes.{Call, begin_encoding, end_encoding, discard_encoding, opening, ending, quiet, set, drawing, Stage, idle, recording, in_pass, account_of, pass_draws, offers, next, records, asks, start_of}
use Rattle.runs.specs.Marks.{Moment, is_opening, is_mark, touches, touches_vertex}
use Rattle.runs.proofs.Quiets.{quiet_quiet}
use Rattle.runs.proofs.Flushes.{flush_played}
use Rattle.passes.proofs.Questions.{group_asked, immediates_asked, draw_asked}
use Rattle.runs.proofs.Agreeing.{Agree, agree_opened, agree_device, agree_group, agree_immediates}
use Rattle.runs.proofs.Piping.{pipe_played, agree_pipe}
use Rattle.runs.proofs.Ready.{agree_prepared, prepared_is, Ready, ready_at, drawable_prepared, own_stepped, wiped_is_special, agree_after}
use Rattle.runs.proofs.Following.{Extends, Follows, follows_quiet, follows_set}
use Rattle.runs.proofs.Viewing.{FollowsViews, views_quiet, views_set, Viewed, viewed_none, viewed_quiet, viewed_set, viewed_flushed, viewed_after}

-- ---- set calls

-- the account agrees with the device behind a set call, which wrote no slot
pub record SetDone (c : SetCall) (a : Account) (d e : Device) : Type 0 where
  pub agree : Agree a.half (set_pipeline c a.pipeline) (set_roots c a.roots) e
  pub writes : (g : Half) → (e.halves g).writes ≡ (d.halves g).writes
  pub vertices : e.vertices ≡ d.vertices
  pub vertex_writes : e.vertex_writes ≡ d.vertex_writes

pub set_done : (c : SetCall) (a : Account) (d : Device) → Agree a.half a.pipeline a.roots d → asks_set c a.roots.layout ≡ None → SetDone c a d (play (set_records c a) d)
set_done (set_bind_group l i t bs os) a d g q =
    let w = group_asked l i t bs os a.roots.layout q in
    record { agree = agree_group a.half a.pipeline d l a.roots g i t (addresses bs os) w.0 w.1 w.2 w.3; writes = λ _. refl; vertices = refl; vertex_writes = refl }
set_done (set_immediates l at ws) a d g q =
    let w = immediates_asked l at ws a.roots.layout q in
    record { agree = agree_immediates a.half a.pipeline d l a.roots g (at / 4) ws w.0 w.1 w.2; writes = λ _. refl; vertices = refl; vertex_writes = refl }
set_done (set_render_pipeline p) a d g q =
    let w = pipe_played a.half p.layout.signature p.handle a.pipeline a.roots (IASetPrimitiveTopology p.topology ∷ []) d g refl in
    record {
      agree = agree_pipe a.half a.pipeline a.roots d _ p.layout p.handle g w q;
      writes = w.writes;
      vertices = w.vertices;
      vertex_writes = w.vertex_writes;
    }
set_done (set_compute_pipeline p) a d g q =
    let w = pipe_played a.half p.layout.signature p.handle a.pipeline a.roots [] d g refl in
    record {
      agree = agree_pipe a.half a.pipeline a.roots d _ p.layout p.handle g w q;
      writes = w.writes;
      vertices = w.vertices;
      vertex_writes = w.vertex_writes;
    }
set_done (set_vertex_buffer i x) a d g q = record { agree = g; writes = λ _. refl; vertices = refl; vertex_writes = refl }

-- ---- draws

-- what a draw records before its own command
abbrev pub flush_of : DrawCall → Account → List Command
flush_of c a = flushed a.half (prepared c a.roots) a.vertices

pub draw_played : (c : DrawCall) (a : Account) (d : Device) → play (draw_records c a) d ≡ step (own_command c a.roots.layout) (play (flush_of c a) d)
draw_played c a d = play_append (flush_of c a) (own_command c a.roots.layout ∷ []) d

pub draw_ready : (c : DrawCall) (a : Account) (d : Device) → Agree a.half a.pipeline a.roots d → asks_draw c a ≡ None
    → Ready a.half a.pipeline (prepared c a.roots) d (play (flush_of c a) d)
draw_ready c a d g q =
    ready_at a.half a.pipeline (prepared c a.roots) a.vertices d (play (flush_of c a) d)
    (agree_prepared a.half a.pipeline a.roots d (own_constants c) g)
    (drawable_prepared (own_constants c) a.pipeline a.roots (draw_asked c a q))
    (flush_played a.half (prepared c a.roots) a.vertices d)

-- the layout that it draws with is the current one
pub draw_current : (c : DrawCall) (a : Account) (d : Device) (r : Ready a.half a.pipeline (prepared c a.roots) d (play (flush_of c a) d)) → asks_draw c a ≡ None
    → a.roots.layout ≡ Some r.layout
draw_current c a d r q =
    let x = draw_asked c a q in sym (prepared_is x.layout (own_constants c) a.roots x.current).layout ∙ r.current

draw_agree : (c : DrawCall) (a : Account) (d : Device) → Agree a.half a.pipeline a.roots d → pass_draws a.half c ≡ true → asks_draw c a ≡ None
    → Agree a.half a.pipeline (after_draw c a).roots (step (own_command c a.roots.layout) (play (flush_of c a) d))
draw_agree c a d g o q =
    let r = draw_ready c a d g q in
    agree_after a.half a.pipeline (prepared c a.roots) d (play (flush_of c a) d) (step (own_command c a.roots.layout) (play (flush_of c a) d))
    (wiped_slot (own_constants c) a.roots.layout) r
    (λ i w. wiped_is_special (own_constants c) r.layout i (ap (wiped_slot (own_constants c)) (sym (draw_current c a d r q)) ∙ w))
    (own_stepped c a.half a.roots.layout (play (flush_of c a) d) o)

-- ---- any accepted call

-- in a pass: its account agrees with the device. The calls of the pass so far are ever
abbrev pub Sound : List Moment → Stage → Device → Type 0
Sound ever idle d = Unit {0}
Sound ever recording d = Unit {0}
Sound ever (in_pass a) d = Agree a.half a.pipeline a.roots d × Viewed ever a.vertices d

pub sound_taken : (own : ListState) (c : Call) (s : Stage) (m : Meaning) (ever ever' : List Moment) → Sound ever s m.device → offers s c ≡ true → asks own c (account_of s) ≡ None
    → Extends touches_vertex ever ever' (touches_vertex c (account_of s)) → Sound (cond (is_opening c) [] ever') (next c s) (play (records own c (account_of s)) (start_of c m).device)
sound_taken own begin_encoding s m ever ever' g o q x = tt
sound_taken own end_encoding s m ever ever' g o q x = tt
sound_taken own discard_encoding s m ever ever' g o q x = tt
sound_taken own (opening p) s m ever ever' g o q x = (agree_opened (half_of p) (is_labelled (label_of p)) _, viewed_none _ _ (λ i. refl))
sound_taken own (ending h) s m ever ever' g o q x = tt
sound_taken own (quiet c) idle m ever ever' g o q x = tt
sound_taken own (quiet c) recording m ever ever' g o q x = tt
sound_taken own (quiet c) (in_pass a) m ever ever' g o q x =
    let d = m.device in
    let e = play (quiet_records c) d in
    let s = quiet_played (quiet_records c) d (quiet_quiet c) in
    (agree_device a.half a.pipeline a.roots d e (ap (λ f. f a.half) s.halves) s.pipeline g.0, viewed_quiet ever ever' a.vertices d e g.1 x s.vertices)
sound_taken own (set c) idle m ever ever' g o q x = absurd (false≢true o)
sound_taken own (set c) recording m ever ever' g o q x = absurd (false≢true o)
sound_taken own (set c) (in_pass a) m ever ever' g o q x =
    let w = set_done c a m.device g.0 q in
    (w.agree, viewed_set ever ever' c a.vertices a.roots.layout m.device (play (set_records c a) m.device) g.1 x q w.vertices)
sound_taken own (drawing c) idle m ever ever' g o q x = absurd (false≢true o)
sound_taken own (drawing c) recording m ever ever' g o q x = absurd (false≢true o)
sound_taken own (drawing c) (in_pass a) m ever ever' g o q x =
    let d = m.device in
    let e = play (flush_of c a) d in
    subst (λ z. Sound ever' (in_pass (after_draw c a)) z) (sym (draw_played c a d)) (
      draw_agree c a d g.0 o q,
      viewed_after ever ever' a.vertices e (step (own_command c a.roots.layout) e)
          (viewed_flushed ever a.half (prepared c a.roots) a.vertices d e g.1 (flush_played a.half (prepared c a.roots) a.vertices d)) x
          (own_stepped c a.half a.roots.layout e o).vertices,
    )

pub own_unwritten : (c : DrawCall) (l : Option PipelineLayout) (d : Device) → Unwritten d (step (own_command c l) d)
own_unwritten (draw first count instance instances) l d = record { roots = λ h k. refl; vertices = λ i. refl }
own_unwritten (draw_indirect buffer offset count) l d =
    record { roots = λ h k. ap (λ f. f k) (step_root_writes h (ExecuteIndirect Graphics (own_slot l) count buffer offset) d); vertices = λ i. refl }
own_unwritten (dispatch x y z) l d = record { roots = λ h k. refl; vertices = λ i. refl }
own_unwritten (dispatch_indirect buffer offset) l d =
    record { roots = λ h k. ap (λ f. f k) (step_root_writes h (ExecuteIndirect Compute (own_slot l) 1 buffer offset) d); vertices = λ i. refl }

-- in a pass: since a mark that found e no slot was written, and the touched slots are those that the calls since then touched
abbrev pub Since : Device → List Moment → Stage → Device → Type 0
Since e since idle d = Unit {0}
Since e since recording d = Unit {0}
Since e since (in_pass a) d = Unwritten e d × Follows since a.roots × FollowsViews since a.vertices

pub since_taken : (e : Device) (own : ListState) (c : Call) (s : Stage) (m : Meaning) (ever since since' : List Moment) → Sound ever s m.device → Since e since s m.device
    → offers s c ≡ true → asks own c (account_of s) ≡ None → is_mark c ≡ false
    → Extends touches since since' (touches c (account_of s)) → Extends touches_vertex since since' (touches_vertex c (account_of s))
    → Since e since' (next c s) (play (records own c (account_of s)) (start_of c m).device)
since_taken e own begin_encoding s m ever since since' g h o q n x y = tt
since_taken e own end_encoding s m ever since since' g h o q n x y = tt
since_taken e own discard_encoding s m ever since since' g h o q n x y = tt
since_taken e own (opening p) s m ever since since' g h o q n x y = absurd (true≢false n)
since_taken e own (ending p) s m ever since since' g h o q n x y = tt
since_taken e own (quiet c) idle m ever since since' g h o q n x y = tt
since_taken e own (quiet c) recording m ever since since' g h o q n x y = tt
since_taken e own (quiet c) (in_pass a) m ever since since' g h o q n x y = (
  unwritten_then e m.device _ h.0 (still_unwritten m.device _ (quiet_played (quiet_records c) m.device (quiet_quiet c))),
  follows_quiet since since' a.roots h.1 x,
  views_quiet since since' a.vertices h.2 y,
)
since_taken e own (set c) idle m ever since since' g h o q n x y = absurd (false≢true o)
since_taken e own (set c) recording m ever since since' g h o q n x y = absurd (false≢true o)
since_taken e own (set c) (in_pass a) m ever since since' g h o q n x y =
    let w = set_done c a m.device g.0 q in (
      unwritten_then e m.device _ h.0 (record { roots = λ i k. ap (λ f. f k) (w.writes i); vertices = λ i. ap (λ f. f i) w.vertex_writes }),
      follows_set since since' a.roots h.1 c x,
      views_set since since' c a.vertices h.2 y,
    )
since_taken e own (drawing c) s m ever since since' g h o q n x y = absurd (true≢false n)
