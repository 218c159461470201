-- What a flush does: it writes the touched slots, and leaves everything else.
use Rattle.std.proofs.Common.{◌≡◌, ℕ, ◌+◌, ◌<◌, ◌≤◌, true, false, sym, refl, ap, ◌∙◌, subst, arith}
use Rattle.std.proofs.lemmas.Bool.{true≢false}
use Rattle.command_list.specs.declared.command.Half.{Half}
use Rattle.device.specs.Devices.{Device, Roots, other, play}
use Rattle.device.specs.Writes.{gathered}
use Rattle.device.proofs.Runs.{play_append}
use Rattle.device.proofs.Slots.{Kept, kept_none, kept_then, Beside, beside_none, beside_then}
use Rattle.device.proofs.Vertices.{Aside, SameView, PutView, same_none, same_then, view_between, view_other, view_put_lem}
use Rattle.device.proofs.Tables.{gathered_keeps, gathered_does}
use Rattle.passes.specs.Account.{Bound, Views}
use Rattle.passes.specs.Flush.{Value, value_at, slot_commands, root_commands, vertex_commands, flushed}
use Rattle.passes.proofs.Fitting.{solid}
use Rattle.runs.proofs.Slots.{Put, put_between, given_other, given_signature, given_put, slot_played}

-- ---- root slots

slot_beside : (h : Half) (k : ℕ) (v : Value) (d : Device) → Beside h d (play (slot_commands h k v) d)
slot_beside h k v d =
    let r = slot_played h k v d in
    record {
      signature = ap (λ (x : Roots). x.signature) r.here ∙ given_signature k v (d.halves h);
      other = r.other;
      pipeline = r.pipeline;
      vertices = r.vertices;
      vertex_writes = r.vertex_writes;
    }

slot_other : (h : Half) (k : ℕ) (v : Value) (q : ℕ) → (q ≡ k → ⊥) → (d : Device) → Kept q (d.halves h) ((play (slot_commands h k v) d).halves h)
slot_other h k v q n d = subst (λ x. Kept q (d.halves h) x) (sym (slot_played h k v d).here) (given_other k v (d.halves h) q n)

slot_put : (h : Half) (k : ℕ) (v : Value) → solid v ≡ true → (d : Device) → Put k v (d.halves h) ((play (slot_commands h k v) d).halves h)
slot_put h k v s d = subst (λ x. Put k v (d.halves h) x) (sym (slot_played h k v d).here) (given_put k v (d.halves h) s)

module _ (h : Half) (b : Bound) where
  roots_beside : (n k : ℕ) (d : Device) → Beside h d (play (gathered b.touched (root_commands h b) k n) d)
  roots_beside n k d =
      gathered_keeps b.touched (root_commands h b) (Beside h) (beside_none h) (beside_then h) n k (λ j l e x. slot_beside h j (value_at h b j) x) d

  roots_kept : (n k q : ℕ) → b.touched q ≡ false → (d : Device) → Kept q (d.halves h) ((play (gathered b.touched (root_commands h b) k n) d).halves h)
  roots_kept n k q off d =
      gathered_keeps b.touched (root_commands h b) (λ x y. Kept q (x.halves h) (y.halves h)) (λ x. kept_none q (x.halves h))
      (λ x y z. kept_then q (x.halves h) (y.halves h) (z.halves h)) n k
      (λ j l e x. slot_other h j (value_at h b j) q (λ w. true≢false (sym e ∙ sym (ap b.touched w) ∙ off)) x) d

  roots_put : (n k q : ℕ) → b.touched q ≡ true → solid (value_at h b q) ≡ true → k ≤ q → q < k + n → (d : Device)
      → Put q (value_at h b q) (d.halves h) ((play (gathered b.touched (root_commands h b) k n) d).halves h)
  roots_put n k q on s l m d =
      gathered_does b.touched (root_commands h b) (λ x y. Kept q (x.halves h) (y.halves h)) (λ x. kept_none q (x.halves h))
      (λ x y z. kept_then q (x.halves h) (y.halves h) (z.halves h))
      (λ x y. Put q (value_at h b q) (x.halves h) (y.halves h)) (λ w x y z. put_between q (value_at h b q) (w.halves h) (x.halves h) (y.halves h) (z.halves h))
      q on (λ j w x. slot_other h j (value_at h b j) q w x) (slot_put h q (value_at h b q) s) n k l m d

-- ---- vertex slots

module _ (v : Views) where
  views_aside : (n k : ℕ) (d : Device) → Aside d (play (gathered v.touched (vertex_commands v) k n) d)
  views_aside n k d =
      gathered_keeps v.touched (vertex_commands v) Aside (λ x. record { halves = refl; pipeline = refl })
      (λ x y z p q. record { halves = q.halves ∙ p.halves; pipeline = q.pipeline ∙ p.pipeline }) n k (λ j l e x. record { halves = refl; pipeline = refl }) d

  views_kept : (n k i : ℕ) → v.touched i ≡ false → (d : Device) → SameView i d (play (gathered v.touched (vertex_commands v) k n) d)
  views_kept n k i off d =
      gathered_keeps v.touched (vertex_commands v) (SameView i) (same_none i) (same_then i) n k
      (λ j l e x. view_other j (v.views j) i (λ w. true≢false (sym e ∙ sym (ap v.touched w) ∙ off)) x) d

  views_put : (n k i : ℕ) → v.touched i ≡ true → k ≤ i → i < k + n → (d : Device) → PutView i (v.views i) d (play (gathered v.touched (vertex_commands v) k n) d)
  views_put n k i on l m d =
      gathered_does v.touched (vertex_commands v) (SameView i) (same_none i) (same_then i) (PutView i (v.views i)) (view_between i (v.views i))
      i on (λ j w x. view_other j (v.views j) i w x) (view_put_lem i (v.views i)) n k l m d

-- ---- both

-- what a flush of the half h, from d on, leaves behind
pub record Flushed (h : Half) (b : Bound) (v : Views) (d e : Device) : Type 0 where
  pub pipeline : e.pipeline ≡ d.pipeline
  pub signature : (e.halves h).signature ≡ (d.halves h).signature
  pub other : e.halves (other h) ≡ d.halves (other h)
  pub kept : (k : ℕ) → b.touched k ≡ false → Kept k (d.halves h) (e.halves h)
  pub put : (k : ℕ) → k < 64 → b.touched k ≡ true → solid (value_at h b k) ≡ true → Put k (value_at h b k) (d.halves h) (e.halves h)
  pub view_kept : (i : ℕ) → v.touched i ≡ false → (e.vertices i ≡ d.vertices i) × (e.vertex_writes i ≡ d.vertex_writes i)
  pub view_put : (i : ℕ) → i < 16 → v.touched i ≡ true → (e.vertices i ≡ v.views i) × (d.vertex_writes i < e.vertex_writes i)

pub flush_played : (h : Half) (b : Bound) (v : Views) (d : Device) → Flushed h b v d (play (flushed h b v) d)
flush_played h b v d =
    let first = gathered v.touched (vertex_commands v) 0 16 in
    let mid = play first d in
    let last = play (gathered b.touched (root_commands h b) 0 64) mid in
    let aside = views_aside v 16 0 d in
    let beside = roots_beside h b 64 0 mid in
    let at : mid.halves h ≡ d.halves h = ap (λ f. f h) aside.halves in
    subst (λ x. Flushed h b v d x) (sym (play_append first (gathered b.touched (root_commands h b) 0 64) d))
    (record {
      pipeline = beside.pipeline ∙ aside.pipeline;
      signature = beside.signature ∙ ap (λ (x : Roots). x.signature) at;
      other = beside.other ∙ ap (λ f. f (other h)) aside.halves;
      kept = λ k off. subst (λ x. Kept k x (last.halves h)) at (roots_kept h b 64 0 k off mid);
      put = λ k l on s. subst (λ x. Put k (value_at h b k) x (last.halves h)) at (roots_put h b 64 0 k on s (omega arith) (omega arith) mid);
      view_kept = λ i off. let s = views_kept v 16 0 i off d in (ap (λ f. f i) beside.vertices ∙ s.view, ap (λ f. f i) beside.vertex_writes ∙ s.writes);
      view_put = λ i l on.
          let s = views_put v 16 0 i on (omega arith) (omega arith) d in
          (ap (λ f. f i) beside.vertices ∙ s.view, subst (λ n. d.vertex_writes i < n) (sym (ap (λ f. f i) beside.vertex_writes)) s.rises);
    })
