-- What writes to the root slots of a half come to.
use Rattle.std.proofs.Common.{◌≡◌, ℕ, ◌+◌, ◌<◌, ◌≤◌, List, [], ◌∷◌, Some, Option, refl, ap, ◌∙◌, arith}
use Rattle.command_list.specs.declared.command.Half.{Half}
use Rattle.device.specs.Devices.{Device, Roots, Slot, words, update, words_of, written, worded, other, on_half, counted, play}
use Rattle.device.specs.Writes.{word_commands, Begins}
use Rattle.device.proofs.Updates.{update_here, update_other, changed_here, changed_other}

-- ---- one half

-- words of a slot, set one after the other
abbrev pub worder : ℕ → ℕ → List ℕ → Roots → Roots
worder k w [] r = r
worder k w (v ∷ vs) r = worder k (w + 1) vs (worded k w v r)

-- a slot is as it was
pub record Kept (q : ℕ) (r s : Roots) : Type 0 where
  pub slots : s.slots q ≡ r.slots q
  pub writes : s.writes q ≡ r.writes q

pub kept_none : (q : ℕ) (r : Roots) → Kept q r r
kept_none q r = record { slots = refl; writes = refl }

pub kept_then : (q : ℕ) (r s t : Roots) → Kept q r s → Kept q s t → Kept q r t
kept_then q r s t a b = record { slots = b.slots ∙ a.slots; writes = b.writes ∙ a.writes }

pub written_other : (k : ℕ) (x : Slot) (r : Roots) (q : ℕ) → (q ≡ k → ⊥) → Kept q r (written k x r)
written_other k x r q n = record { slots = update_other r.slots k x q n; writes = update_other r.writes k (r.writes k + 1) q n }

pub worder_other : (k w : ℕ) (vs : List ℕ) (r : Roots) (q : ℕ) → (q ≡ k → ⊥) → Kept q r (worder k w vs r)
worder_other k w [] r q n = kept_none q r
worder_other k w (v ∷ vs) r q n =
    kept_then q r (worded k w v r) (worder k (w + 1) vs (worded k w v r))
    (written_other k (words (update (words_of (r.slots k)) w (Some v))) r q n) (worder_other k (w + 1) vs (worded k w v r) q n)

pub worder_signature : (k w : ℕ) (vs : List ℕ) (r : Roots) → (worder k w vs r).signature ≡ r.signature
worder_signature k w [] r = refl
worder_signature k w (v ∷ vs) r = worder_signature k (w + 1) vs (worded k w v r)

-- the slot behind one word
worded_slot : (k w v : ℕ) (r : Roots) → (worded k w v r).slots k ≡ words (update (words_of (r.slots k)) w (Some v))
worded_slot k w v r = update_here r.slots k (words (update (words_of (r.slots k)) w (Some v))) k refl

-- later words leave those before them
worder_low : (k w : ℕ) (vs : List ℕ) (r : Roots) (u : ℕ) → u < w → words_of ((worder k w vs r).slots k) u ≡ words_of (r.slots k) u
worder_low k w [] r u l = refl
worder_low k w (v ∷ vs) r u l =
    worder_low k (w + 1) vs (worded k w v r) u (omega arith)
    ∙ ap (λ s. words_of s u) (worded_slot k w v r)
    ∙ update_other (words_of (r.slots k)) w (Some v) u (λ e. omega arith)

pub worder_begins : (k w : ℕ) (vs : List ℕ) (r : Roots) → Begins (words_of ((worder k w vs r).slots k)) w vs
worder_begins k w [] r = tt
worder_begins k w (v ∷ vs) r = (
  worder_low k (w + 1) vs (worded k w v r) w (omega arith) ∙ ap (λ s. words_of s w) (worded_slot k w v r) ∙ update_here (words_of (r.slots k)) w (Some v) w refl,
  worder_begins k (w + 1) vs (worded k w v r),
)

pub worder_is : (k w v : ℕ) (vs : List ℕ) (r : Roots) → (f : ℕ → Option ℕ) × ((worder k w (v ∷ vs) r).slots k ≡ words f)
worder_is k w v [] r = (update (words_of (r.slots k)) w (Some v), worded_slot k w v r)
worder_is k w v (x ∷ xs) r = worder_is k (w + 1) x xs (worded k w v r)

pub worder_rises : (k w : ℕ) (vs : List ℕ) (r : Roots) → r.writes k ≤ (worder k w vs r).writes k
worder_rises k w [] r = omega arith
worder_rises k w (v ∷ vs) r = omega (arith, worder_rises k (w + 1) vs (worded k w v r), update_here r.writes k (r.writes k + 1) k refl)

-- ---- the device

-- one half changed so, and nothing else but counts of codes
pub record Rooted (h : Half) (f : Roots → Roots) (d e : Device) : Type 0 where
  pub here : e.halves h ≡ f (d.halves h)
  pub other : e.halves (other h) ≡ d.halves (other h)
  pub pipeline : e.pipeline ≡ d.pipeline
  pub vertices : e.vertices ≡ d.vertices
  pub vertex_writes : e.vertex_writes ≡ d.vertex_writes

pub rooted_one : (h : Half) (f : Roots → Roots) (n : ℕ) (d : Device) → Rooted h f d (counted n (on_half h f d))
rooted_one h f n d = record { here = changed_here h f d.halves; other = changed_other h f d.halves; pipeline = refl; vertices = refl; vertex_writes = refl }

rooted_then : (h : Half) (f g : Roots → Roots) (a b c : Device) → Rooted h f a b → Rooted h g b c → Rooted h (λ r. g (f r)) a c
rooted_then h f g a b c p q = record {
  here = q.here ∙ ap g p.here;
  other = q.other ∙ p.other;
  pipeline = q.pipeline ∙ p.pipeline;
  vertices = q.vertices ∙ p.vertices;
  vertex_writes = q.vertex_writes ∙ p.vertex_writes;
}

pub rooted_none : (h : Half) (d : Device) → Rooted h (λ r. r) d d
rooted_none h d = record { here = refl; other = refl; pipeline = refl; vertices = refl; vertex_writes = refl }

-- commands that set words of a slot, one after the other, change its half so, and nothing else but counts of codes
pub words_played : (h : Half) (k w : ℕ) (vs : List ℕ) (d : Device) → Rooted h (worder k w vs) d (play (word_commands h k w vs) d)
words_played h k w [] d = rooted_none h d
words_played h k w (v ∷ vs) d =
    let e = counted _ (on_half h (worded k w v) d) in
    rooted_then h (worded k w v) (worder k (w + 1) vs) d e (play (word_commands h k (w + 1) vs) e) (rooted_one h (worded k w v) _ d) (words_played h k (w + 1) vs e)

-- what the writes of a half's root slots leave
pub record Beside (h : Half) (d e : Device) : Type 0 where
  pub signature : (e.halves h).signature ≡ (d.halves h).signature
  pub other : e.halves (other h) ≡ d.halves (other h)
  pub pipeline : e.pipeline ≡ d.pipeline
  pub vertices : e.vertices ≡ d.vertices
  pub vertex_writes : e.vertex_writes ≡ d.vertex_writes

pub beside_none : (h : Half) (d : Device) → Beside h d d
beside_none h d = record { signature = refl; other = refl; pipeline = refl; vertices = refl; vertex_writes = refl }

pub beside_then : (h : Half) (a b c : Device) → Beside h a b → Beside h b c → Beside h a c
beside_then h a b c p q = record {
  signature = q.signature ∙ p.signature;
  other = q.other ∙ p.other;
  pipeline = q.pipeline ∙ p.pipeline;
  vertices = q.vertices ∙ p.vertices;
  vertex_writes = q.vertex_writes ∙ p.vertex_writes;
}
