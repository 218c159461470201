-- Every run keeps what is said of its marks.
use Rattle.std.proofs.Common.{◌≡◌, ℕ, ◌<◌, Bool, true, false, cond, ◌&&◌, List, [], ◌∷◌, ◌++◌, Some, None, sym, refl, ap, ◌∙◌, subst, ⊎_elim, append_assoc, append-nil, arith}
use Rattle.std.proofs.lemmas.Bool.{false≢true, cases_Bool, and_left}
use Rattle.command_list.specs.Commands.{Command}
use Rattle.device.specs.Devices.{Device, Roots, other, step, play}
use Rattle.device.proofs.Quiets.{quiet_played}
use Rattle.device.proofs.NoWrites.{Unwritten, still_unwritten}
use Rattle.passes.specs.Account.{Account}
use Rattle.passes.specs.Calls.{DrawCall, own_constants, prepared, own_command, draw_records, asks_draw, draw_touches}
use Rattle.encoder.specs.Opening.{opening_records}
use Rattle.encoder.specs.declared.state.ListState.{ListState}
use Rattle.encoder.specs.Scenes.{Call, begin_encoding, end_encoding, discard_encoding, opening, ending, quiet, set, drawing, Stage, idle, recording, in_pass, account_of, pass_draws, offers, records, asks, start_of, taken, is_taken, Scene, Does}
use Rattle.encoder.proofs.Answered.{taken_is, Took, took}
use Rattle.runs.specs.Marks.{Moment, Run, device_before, device_after, account_at, is_opening, is_mark, Mark, NoMark, but_last, found_by, found, touches, touches_vertex, since_opening, Stands, EveryRunKeeps}
use Rattle.runs.proofs.Quiets.{opening_quiet}
use Rattle.runs.proofs.Flushes.{flush_played}
use Rattle.passes.proofs.Questions.{draw_asked}
use Rattle.runs.proofs.Agreeing.{Agree, same_total}
use Rattle.runs.proofs.Ready.{agree_prepared, known_prepared, kind_prepared, own_latest}
use Rattle.runs.proofs.Following.{Extends, extends_taken, extends_refused, Follows, follows_none, follows_quiet, follows_prepared}
use Rattle.runs.proofs.Viewing.{FollowsViews, views_none, views_quiet, Viewed, viewed_quiet, viewed_flushed}
use Rattle.runs.proofs.Accepted.{flush_of, draw_played, draw_ready, draw_current, Sound, sound_taken, own_unwritten, Since, since_taken}

-- ---- one call

at_scene : (P : Stage → Device → Type 0) (t : Scene) (s : Stage) (d : Device) → t.stage ≡ s → t.meaning.device ≡ d → P s d → P t.stage t.meaning.device
at_scene P t s d p q h = subst (λ x. P x t.meaning.device) (sym p) (subst (λ x. P s x) (sym q) h)

at_same : (P : Stage → Device → Type 0) (s t : Scene) → t ≡ s → P s.stage s.meaning.device → P t.stage t.meaning.device
at_same P s t e h = subst (λ (x : Scene). P x.stage x.meaning.device) (sym e) h

-- ---- accounts and devices agree all along a run

abbrev opens : Moment → Bool
opens m = is_taken m.answer && is_opening m.call

sound_refused : (ever ever' : List Moment) (s : Stage) (d : Device) → Extends touches_vertex ever ever' (λ i. false) → Sound ever s d → Sound ever' s d
sound_refused ever ever' idle d x g = tt
sound_refused ever ever' recording d x g = tt
sound_refused ever ever' (in_pass a) d x g = (g.0, viewed_quiet ever ever' a.vertices d d g.1 x refl)

sound_step : (ever : List Moment) (m : Moment) → Does m.before m.call m.answer m.after → Sound ever m.before.stage (device_before m)
    → Sound (cond (opens m) [] (ever ++ (m ∷ []))) m.after.stage (device_after m)
sound_step ever m d g =
    let ever' = ever ++ (m ∷ []) in
    ⊎_elim
    (λ y.
    let w = took m.before m.call m.answer m.after d y in
    let x = extends_taken touches_vertex ever m (taken_is m.answer y) in
    let both : opens m ≡ is_opening m.call = ap (λ b. b && is_opening m.call) y in
    subst (λ b. Sound (cond b [] ever') m.after.stage (device_after m)) (sym both)
    (at_scene (Sound (cond (is_opening m.call) [] ever')) m.after _ _ w.stage w.device
    (sound_taken m.before.own m.call m.before.stage m.before.meaning ever ever' g w.offered w.clear x)))
    (λ y.
    let none : opens m ≡ false = and_left (is_taken m.answer) (is_opening m.call) y in
    subst (λ b. Sound (cond b [] ever') m.after.stage (device_after m)) (sym none)
    (at_same (Sound ever') m.before m.after (d.refused y) (sound_refused ever ever' m.before.stage (device_before m) (extends_refused touches_vertex ever m y) g)))
    (cases_Bool (is_taken m.answer))

pub sound_run : (ever : List Moment) (s : Scene) (ms : List Moment) (t : Scene) → Run s ms t → Sound ever s.stage s.meaning.device
    → Sound (since_opening ever ms) t.stage t.meaning.device
sound_run ever s [] t r g = at_same (Sound ever) s t r g
sound_run ever s (m ∷ ms) t r g =
    let one = sound_step ever m r.1 (at_same (Sound ever) s m.before r.0 g) in
    let go : (b : Bool) → Sound (cond b [] (ever ++ (m ∷ []))) m.after.stage (device_after m)
    → Sound (cond b (since_opening [] ms) (since_opening (ever ++ (m ∷ [])) ms)) t.stage t.meaning.device = λ b.
    elim b as (λ b. Sound (cond b [] (ever ++ (m ∷ []))) m.after.stage (device_after m)
    → Sound (cond b (since_opening [] ms) (since_opening (ever ++ (m ∷ [])) ms)) t.stage t.meaning.device)
    [ true ↦ λ h. sound_run [] m.after ms t r.2 h | false ↦ λ h. sound_run (ever ++ (m ∷ [])) m.after ms t r.2 h ] in
    go (opens m) one

-- ---- and between marks slots are touched as the calls say

since_refused : (e : Device) (since since' : List Moment) (s : Stage) (d : Device) → Extends touches since since' (λ k. false) → Extends touches_vertex since since' (λ k. false)
    → Since e since s d → Since e since' s d
since_refused e since since' idle d x y g = tt
since_refused e since since' recording d x y g = tt
since_refused e since since' (in_pass a) d x y g = (g.0, follows_quiet since since' a.roots g.1 x, views_quiet since since' a.vertices g.2 y)

since_step : (e : Device) (ever since : List Moment) (m : Moment) → Does m.before m.call m.answer m.after → (Mark m → ⊥)
    → Sound ever m.before.stage (device_before m) → Since e since m.before.stage (device_before m) → Since e (since ++ (m ∷ [])) m.after.stage (device_after m)
since_step e ever since m d nm g h =
    let since' = since ++ (m ∷ []) in
    ⊎_elim
    (λ y.
    let w = took m.before m.call m.answer m.after d y in
    let ok = taken_is m.answer y in
    let plain : is_mark m.call ≡ false = ⊎_elim (λ z. absurd (nm (record { accepted = ok; marks = z }))) (λ z. z) (cases_Bool (is_mark m.call)) in
    at_scene (Since e since') m.after _ _ w.stage w.device
    (since_taken e m.before.own m.call m.before.stage m.before.meaning ever since since' g h w.offered w.clear plain
    (extends_taken touches since m ok) (extends_taken touches_vertex since m ok)))
    (λ y. at_same (Since e since') m.before m.after (d.refused y)
    (since_refused e since since' m.before.stage (device_before m) (extends_refused touches since m y) (extends_refused touches_vertex since m y) h))
    (cases_Bool (is_taken m.answer))

since_run : (e : Device) (ever since : List Moment) (s : Scene) (ms : List Moment) (t : Scene) → Run s ms t → NoMark ms
    → Sound ever s.stage s.meaning.device → Since e since s.stage s.meaning.device → Since e (since ++ ms) t.stage t.meaning.device
since_run e ever since s [] t r n g h = subst (λ x. Since e x t.stage t.meaning.device) (sym (append-nil since)) (at_same (Since e since) s t r h)
since_run e ever since s (m ∷ ms) t r n g h =
    let g₁ = at_same (Sound ever) s m.before r.0 g in
    let h₁ = at_same (Since e since) s m.before r.0 h in
    subst (λ x. Since e x t.stage t.meaning.device) (append_assoc since (m ∷ []) ms)
    (since_run e (cond (opens m) [] (ever ++ (m ∷ []))) (since ++ (m ∷ [])) m.after ms t r.2 n.1
    (sound_step ever m r.1 g₁) (since_step e ever since m r.1 n.0 g₁ h₁))

pub run_split : (s : Scene) (xs ys : List Moment) (t : Scene) → Run s (xs ++ ys) t → (u : Scene) × Run s xs u × Run u ys t
run_split s [] ys t r = (s, refl, r)
run_split s (x ∷ xs) ys t r = let q = run_split x.after xs ys t r.2 in (q.0, (r.0, r.1, q.1), q.2)

-- a run with one call more
pub run_more : (s : Scene) (ms : List Moment) (t : Scene) (m : Moment) → Run s ms t → m.before ≡ t → Does m.before m.call m.answer m.after → Run s (ms ++ (m ∷ [])) m.after
run_more s [] t m r e d = (e ∙ r, d, refl)
run_more s (x ∷ xs) t m r e d = (r.0, r.1, run_more x.after xs t m r.2 e d)

-- ---- the marks

but_last_one : (cs : List Command) (c : Command) → but_last (cs ++ (c ∷ [])) ≡ cs
but_last_one [] c = refl
but_last_one (a ∷ []) c = refl
but_last_one (a ∷ b ∷ cs) c = ap (λ r. a ∷ r) (but_last_one (b ∷ cs) c)

pub draw_found : (own : ListState) (c : DrawCall) (a : Account) (d : Device) → found_by (drawing c) (records own (drawing c) a) d ≡ play (flush_of c a) d
draw_found own c a d = ap (λ z. play z d) (but_last_one (flush_of c a) (own_command c a.roots.layout))

-- an accepted mark finds a device, and from then on the account is followed
mark_found : (c : Call) (s t : Scene) → Took s c t → is_mark c ≡ true
    → Since (found_by c (records s.own c (account_of s.stage)) s.meaning.device) [] t.stage t.meaning.device
mark_found begin_encoding s t w k = absurd (false≢true k)
mark_found end_encoding s t w k = absurd (false≢true k)
mark_found discard_encoding s t w k = absurd (false≢true k)
mark_found (opening o) s t w k =
    let d = s.meaning.device in
    at_scene (Since d []) t _ _ w.stage w.device
    (still_unwritten d _ (quiet_played (opening_records s.own.null_target o) d (opening_quiet s.own.null_target o)), follows_none _ (λ _. refl), views_none _ (λ _. refl))
mark_found (ending h) s t w k = absurd (false≢true k)
mark_found (quiet q) s t w k = absurd (false≢true k)
mark_found (set c) s t w k = absurd (false≢true k)
mark_found (drawing c) s t w k =
    let a = account_of s.stage in
    let d = s.meaning.device in
    let e = play (flush_of c a) d in
    subst (λ z. Since z [] t.stage t.meaning.device) (sym (draw_found s.own c a d))
    (at_scene (Since e []) t _ _ w.stage (w.device ∙ draw_played c a d)
    (own_unwritten c a.roots.layout e, follows_none _ (λ _. refl), views_none _ (λ _. refl)))

-- what is known in a pass that offers a draw
record Drawing (c : DrawCall) (ever : List Moment) (e : Device) (since : List Moment) (a : Account) (d : Device) : Type 0 where
  pub has : pass_draws a.half c ≡ true
  pub agree : Agree a.half a.pipeline a.roots d
  pub viewed : Viewed ever a.vertices d
  pub unwritten : Unwritten e d
  pub follows : Follows since a.roots
  pub views : FollowsViews since a.vertices

in_pass_lem : (c : DrawCall) (ever : List Moment) (e : Device) (since : List Moment) (s : Stage) (d : Device) → offers s (drawing c) ≡ true → Sound ever s d → Since e since s d
    → Drawing c ever e since (account_of s) d
in_pass_lem c ever e since idle d o g h = absurd (false≢true o)
in_pass_lem c ever e since recording d o g h = absurd (false≢true o)
in_pass_lem c ever e since (in_pass a) d o g h = record { has = o; agree = g.0; viewed = g.1; unwritten = h.0; follows = h.1; views = h.2 }

stands_at : (c : DrawCall) (later : Moment) (ever : List Moment) (e : Device) (between since : List Moment) → Drawing c ever e between (account_at later) (device_before later)
    → asks_draw c (account_at later) ≡ None → device_after later ≡ play (draw_records c (account_at later)) (device_before later)
    → Extends touches between since (draw_touches c (account_at later).roots) → Extends touches_vertex between since (λ i. false)
    → Stands c later since ever e (play (flush_of c (account_at later)) (device_before later))
stands_at c later ever e between since k q dev x y =
    let a = account_at later in
    let d = device_before later in
    let d' = play (flush_of c a) d in
    let b = prepared c a.roots in
    let r = draw_ready c a d k.agree q in
    let now = draw_current c a d r q in
    let g = agree_prepared a.half a.pipeline a.roots d (own_constants c) k.agree in
    let f = flush_played a.half b a.vertices d in
    let roots : Follows since b = follows_prepared between since a.roots k.follows (own_constants c) x in
    let views : FollowsViews since a.vertices = views_quiet between since a.vertices k.views y in
    let own = dev ∙ draw_played c a d ∙ ap (λ o. step (own_command c o) d') now in
    record {
      pipeline = r.pipeline;
      layout = r.layout;
      piped = r.set;
      current = now;
      on_device = r.on_device;
      handle = r.handle;
      signed = r.signed;
      same = r.same;
      recorded = own;
      latest = ap (λ (z : Device). z.latest) own ∙ own_latest c (Some r.layout) d';
      holds = r.holds;
      of_kind = kind_prepared a.half (own_constants c) a.pipeline a.roots (draw_asked c a q) r.layout now;
      known = known_prepared a.half (own_constants c) a.pipeline a.roots (draw_asked c a q) r.layout now;
      views = viewed_flushed ever a.half b a.vertices d d' k.viewed f;
      written = λ j lt t. omega (arith, r.rises j (roots.all r.layout r.current j lt t), k.unwritten.roots a.half j);
      unwritten = λ j nt. ⊎_elim
          (λ on.
          let i = g.within j on in
          absurd (nt (subst (λ n. j < n) (same_total b.layout i.0 r.layout i.1 r.current) i.2, roots.sure j on)))
          (λ off. r.rests j off ∙ k.unwritten.roots a.half j)
          (cases_Bool (b.touched j));
      other_half = λ j. ap (λ (z : Roots). z.writes j) r.other ∙ k.unwritten.roots (other a.half) j;
      vertex_written = λ i t.
          let on = views.all i t in
          let w = (f.view_put i (k.viewed.within i on) on).1 in
          omega (arith, w, k.unwritten.vertices i);
      vertex_unwritten = λ i nt. ⊎_elim
          (λ on. absurd (nt (views.sure i on)))
          (λ off. (f.view_kept i off).1 ∙ k.unwritten.vertices i)
          (cases_Bool (a.vertices.touched i));
    }

-- an accepted draw stands
draw_stands : (c : DrawCall) (later : Moment) (ever : List Moment) (e : Device) (between : List Moment) → later.call ≡ drawing c → later.answer ≡ taken
    → Does later.before later.call later.answer later.after
    → Sound ever later.before.stage (device_before later) → Since e between later.before.stage (device_before later)
    → Stands c later (between ++ (later ∷ [])) ever e (found later)
draw_stands c later ever e between is ok does g h =
    let a = account_at later in
    let d = device_before later in
    let own = later.before.own in
    let since = between ++ (later ∷ []) in
    let w = took later.before later.call later.answer later.after does (ap is_taken ok) in
    let offered = subst (λ z. offers later.before.stage z ≡ true) is w.offered in
    let clear = subst (λ z. asks own z a ≡ None) is w.clear in
    let dev = w.device ∙ ap (λ z. play (records own z a) (start_of z later.before.meaning).device) is in
    let x = subst (λ z. Extends touches between since (touches z a)) is (extends_taken touches between later ok) in
    let y = subst (λ z. Extends touches_vertex between since (touches_vertex z a)) is (extends_taken touches_vertex between later ok) in
    subst (λ z. Stands c later since ever e z) (sym (ap (λ z. found_by z (records own z a) d) is ∙ draw_found own c a d))
    (stands_at c later ever e between since (in_pass_lem c ever e between later.before.stage d offered g h) clear dev x y)

-- whatever calls are made: each draw stands
pub every_run_keeps : EveryRunKeeps
every_run_keeps s run t start r past earlier between later rest c cut mark plain is ok =
    let before = past ++ (earlier ∷ between) in
    let r₀ = subst (λ ms. Run s ms t) (cut ∙ sym (append_assoc past (earlier ∷ between) (later ∷ rest))) r in
    let none : Sound [] s.stage s.meaning.device = subst (λ x. Sound [] x s.meaning.device) (sym start) tt in
    let one = run_split s before (later ∷ rest) t r₀ in
    let g = sound_run [] s before one.0 one.1 none in
    let two = run_split s past (earlier ∷ between) one.0 one.1 in
    let g₁ = at_same (Sound (since_opening [] past)) two.0 earlier.before two.2.0 (sound_run [] s past two.0 two.1 none) in
    let w = took earlier.before earlier.call earlier.answer earlier.after two.2.1 (ap is_taken mark.accepted) in
    let h₁ = mark_found earlier.call earlier.before earlier.after w mark.marks in
    let h = since_run (found earlier) _ [] earlier.after between one.0 two.2.2 plain (sound_step (since_opening [] past) earlier two.2.1 g₁) h₁ in
    draw_stands c later (since_opening [] before) (found earlier) between is ok one.2.1
    (at_same (Sound (since_opening [] before)) one.0 later.before one.2.0 g)
    (at_same (Since (found earlier) between) one.0 later.before one.2.0 h)
