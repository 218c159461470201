-- Vertex views: those touched since the last mark, and those that the device holds.
use Rattle.std.proofs.Common.{◌≡◌, ℕ, ◌<◌, Bool, true, false, eqb, ltb, ◌⊎◌, List, [], get_or, Some, None, Option, sym, refl, ap, ◌∙◌, inl, inr, ⊎_elim, arith}
use Rattle.std.proofs.lemmas.Bool.{true≢false, false≢true, eqb-true, eq-eqb, ltb-true, not-false, cases_eq, cases_Bool, or_cases, or_left, or_right, or_parts, cond-false}
use Rattle.device.specs.Devices.{Device, VertexView}
use Rattle.device.proofs.Updates.{update_here, update_other}
use Rattle.layouts.specs.declared.layout.PipelineLayout.{PipelineLayout}
use Rattle.passes.specs.Account.{Bound, Views, restrides, stride_or, strided, views_untouched, attached}
use Rattle.passes.specs.Calls.{SetCall, set_bind_group, set_immediates, set_render_pipeline, set_compute_pipeline, set_vertex_buffer, stride_at, set_vertices, set_touches_vertex, asks_set}
use Rattle.command_list.specs.declared.command.Half.{Half}
use Rattle.runs.specs.Marks.{Moment, touches_vertex, TouchedVertex}
use Rattle.passes.proofs.Questions.{vertex_asked}
use Rattle.runs.proofs.Flushes.{Flushed}
use Rattle.runs.proofs.Following.{Extends}

-- ---- what was touched since the last mark

pub record FollowsViews (since : List Moment) (v : Views) : Type 0 where
  pub sure : (i : ℕ) → v.touched i ≡ true → TouchedVertex since i
  pub all : (i : ℕ) → TouchedVertex since i → v.touched i ≡ true

pub views_none : (v : Views) → ((i : ℕ) → v.touched i ≡ false) → FollowsViews [] v
views_none v off = record { sure = λ i on. absurd (true≢false (sym on ∙ off i)); all = λ i t. absurd t }

-- what becomes of views: those of tch are touched too, and the others stay
record Renews (tch : ℕ → Bool) (v w : Views) : Type 0 where
  pub old : (i : ℕ) → v.touched i ≡ true → w.touched i ≡ true
  pub new : (i : ℕ) → tch i ≡ true → w.touched i ≡ true
  pub split : (i : ℕ) → w.touched i ≡ true → (tch i ≡ true) ⊎ (v.touched i ≡ true)
  pub stays : (i : ℕ) → w.touched i ≡ false → w.views i ≡ v.views i

renews_none : (v : Views) → Renews (λ i. false) v v
renews_none v = record { old = λ i on. on; new = λ i e. absurd (false≢true e); split = λ i on. inr on; stays = λ i off. refl }

renews_attached : (k : ℕ) (x : VertexView) (v : Views) → Renews (λ i. eqb i k) v (attached k x v)
renews_attached k x v = record {
  old = λ i on. ⊎_elim (λ w. update_here v.touched k true i w) (λ w. update_other v.touched k true i w ∙ on) (cases_eq i k);
  new = λ i e. update_here v.touched k true i (eqb-true i k e);
  split = λ i on. ⊎_elim (λ w. inl (eq-eqb i k w)) (λ w. inr (sym (update_other v.touched k true i w) ∙ on)) (cases_eq i k);
  stays = λ i off. ⊎_elim (λ w. absurd (true≢false (sym (update_here v.touched k true i w) ∙ off))) (λ w. update_other v.views k x i w) (cases_eq i k);
}

stride_stays : (o : Option ℕ) (x : VertexView) → restrides o x ≡ false → stride_or o x.stride ≡ x.stride
stride_stays None x e = refl
stride_stays (Some s) x e = eqb-true s x.stride (not-false (eqb s x.stride) e)

renews_strided : (f : ℕ → Option ℕ) (v : Views) → Renews (λ i. restrides (f i) (v.views i)) v (strided f v)
renews_strided f v = record {
  old = λ i on. or_right (restrides (f i) (v.views i)) (v.touched i) on;
  new = λ i e. or_left (restrides (f i) (v.views i)) (v.touched i) e;
  split = λ i on. or_cases (restrides (f i) (v.views i)) (v.touched i) on;
  stays = λ i off.
      let p = stride_stays (f i) (v.views i) (or_parts (restrides (f i) (v.views i)) (v.touched i) off).0 in
      λ j. record { address = (v.views i).address; size = (v.views i).size; stride = p j };
}

renews_set : (c : SetCall) (v : Views) → Renews (set_touches_vertex c v) v (set_vertices c v)
renews_set (set_bind_group l i t bs os) v = renews_none v
renews_set (set_immediates l at ws) v = renews_none v
renews_set (set_render_pipeline p) v = renews_strided (stride_at p) v
renews_set (set_compute_pipeline p) v = renews_none v
renews_set (set_vertex_buffer i x) v = renews_attached i _ v

-- a call touches vertex slots below 16
below_set : (c : SetCall) (v : Views) (o : Option PipelineLayout) → asks_set c o ≡ None → (i : ℕ) → set_touches_vertex c v i ≡ true → i < 16
below_set (set_bind_group l j t bs os) v o q i e = absurd (false≢true e)
below_set (set_immediates l at ws) v o q i e = absurd (false≢true e)
below_set (set_render_pipeline p) v o q i e = ⊎_elim (λ y. ltb-true i 16 y) (λ y. absurd (false≢true (sym (none y) ∙ e))) (cases_Bool (ltb i 16))
  where
    none : ltb i 16 ≡ false → restrides (stride_at p i) (v.views i) ≡ false
    none y = ap (λ o. restrides o (v.views i)) (cond-false (ltb i 16) (get_or p.vertex_strides i None) None y)
below_set (set_compute_pipeline p) v o q i e = absurd (false≢true e)
below_set (set_vertex_buffer j x) v o q i e = let w = eqb-true i j e in omega (arith, vertex_asked j x o q)

follows_renews : (since since' : List Moment) (tch : ℕ → Bool) (v w : Views) → FollowsViews since v → Extends touches_vertex since since' tch → Renews tch v w → FollowsViews since' w
follows_renews since since' tch v w g x r = record {
  sure = λ i on. ⊎_elim (λ n. x.new i n) (λ o. x.old i (g.sure i o)) (r.split i on);
  all = λ i t. ⊎_elim (λ o. r.old i (g.all i o)) (λ n. r.new i n) (x.split i t);
}

pub views_quiet : (since since' : List Moment) (v : Views) → FollowsViews since v → Extends touches_vertex since since' (λ i. false) → FollowsViews since' v
views_quiet since since' v g x = follows_renews since since' (λ i. false) v v g x (renews_none v)

pub views_set : (since since' : List Moment) (c : SetCall) (v : Views) → FollowsViews since v → Extends touches_vertex since since' (set_touches_vertex c v) → FollowsViews since' (set_vertices c v)
views_set since since' c v g x = follows_renews since since' (set_touches_vertex c v) v (set_vertices c v) g x (renews_set c v)

-- ---- what the device holds

-- of the slots that were ever touched in the pass, those that are not touched now are on the device
pub record Viewed (ever : List Moment) (v : Views) (d : Device) : Type 0 where
  pub within : (i : ℕ) → v.touched i ≡ true → i < 16
  pub shown : (i : ℕ) → TouchedVertex ever i → v.touched i ≡ false → d.vertices i ≡ v.views i

pub viewed_none : (v : Views) (d : Device) → ((i : ℕ) → v.touched i ≡ false) → Viewed [] v d
viewed_none v d off = record { within = λ i on. absurd (true≢false (sym on ∙ off i)); shown = λ i t _. absurd t }

viewed_renews : (ever ever' : List Moment) (tch : ℕ → Bool) (v w : Views) (d e : Device) → Viewed ever v d → Extends touches_vertex ever ever' tch → Renews tch v w
    → ((i : ℕ) → tch i ≡ true → i < 16) → e.vertices ≡ d.vertices → Viewed ever' w e
viewed_renews ever ever' tch v w d e g x r below same = record {
  within = λ i on. ⊎_elim (λ n. below i n) (λ o. g.within i o) (r.split i on);
  shown = λ i t off.
      let was : v.touched i ≡ false = ⊎_elim (λ on. absurd (true≢false (sym (r.old i on) ∙ off))) (λ z. z) (cases_Bool (v.touched i)) in
      let before : TouchedVertex ever i = ⊎_elim (λ o. o) (λ n. absurd (true≢false (sym (r.new i n) ∙ off))) (x.split i t) in
      ap (λ f. f i) same ∙ g.shown i before was ∙ sym (r.stays i off);
}

pub viewed_quiet : (ever ever' : List Moment) (v : Views) (d e : Device) → Viewed ever v d → Extends touches_vertex ever ever' (λ i. false) → e.vertices ≡ d.vertices → Viewed ever' v e
viewed_quiet ever ever' v d e g x same = viewed_renews ever ever' (λ i. false) v v d e g x (renews_none v) (λ i n. absurd (false≢true n)) same

pub viewed_set : (ever ever' : List Moment) (c : SetCall) (v : Views) (o : Option PipelineLayout) (d e : Device) → Viewed ever v d → Extends touches_vertex ever ever' (set_touches_vertex c v)
    → asks_set c o ≡ None → e.vertices ≡ d.vertices → Viewed ever' (set_vertices c v) e
viewed_set ever ever' c v o d e g x q same =
    viewed_renews ever ever' (set_touches_vertex c v) v (set_vertices c v) d e g x (renews_set c v) (below_set c v o q) same

-- after a flush every one of them is
pub viewed_flushed : (ever : List Moment) (h : Half) (b : Bound) (v : Views) (d e : Device) → Viewed ever v d → Flushed h b v d e → (i : ℕ) → TouchedVertex ever i → e.vertices i ≡ v.views i
viewed_flushed ever h b v d e g f i t = ⊎_elim
    (λ on. (f.view_put i (g.within i on) on).0)
    (λ off. (f.view_kept i off).0 ∙ g.shown i t off)
    (cases_Bool (v.touched i))

pub viewed_after : (ever ever' : List Moment) (v : Views) (e f : Device) → ((i : ℕ) → TouchedVertex ever i → e.vertices i ≡ v.views i)
    → Extends touches_vertex ever ever' (λ i. false) → f.vertices ≡ e.vertices → Viewed ever' (views_untouched v) f
viewed_after ever ever' v e f g x same = record {
  within = λ i on. absurd (false≢true on);
  shown = λ i t _. ap (λ z. z i) same ∙ g i (⊎_elim (λ o. o) (λ n. absurd (false≢true n)) (x.split i t));
}
