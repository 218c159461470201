-- What writes to vertex slots come to.
use Rattle.std.proofs.Common.{◌≡◌, ℕ, ◌+◌, ◌<◌, refl, ◌∙◌, arith}
use Rattle.command_list.specs.Commands.{IASetVertexBuffers}
use Rattle.device.specs.Devices.{Device, VertexView, step}
use Rattle.device.proofs.Updates.{update_here, update_other}

-- what the writes of vertex slots leave
pub record Aside (d e : Device) : Type 0 where
  pub halves : e.halves ≡ d.halves
  pub pipeline : e.pipeline ≡ d.pipeline

pub record SameView (i : ℕ) (d e : Device) : Type 0 where
  pub view : e.vertices i ≡ d.vertices i
  pub writes : e.vertex_writes i ≡ d.vertex_writes i

pub record PutView (i : ℕ) (x : VertexView) (d e : Device) : Type 0 where
  pub view : e.vertices i ≡ x
  pub rises : d.vertex_writes i < e.vertex_writes i

pub same_none : (i : ℕ) (d : Device) → SameView i d d
same_none i d = record { view = refl; writes = refl }

pub same_then : (i : ℕ) (a b c : Device) → SameView i a b → SameView i b c → SameView i a c
same_then i a b c p q = record { view = q.view ∙ p.view; writes = q.writes ∙ p.writes }

pub view_between : (i : ℕ) (x : VertexView) (a b c e : Device) → SameView i a b → PutView i x b c → SameView i c e → PutView i x a e
view_between i x a b c e p q r = record { view = r.view ∙ q.view; rises = omega (arith, p.writes, q.rises, r.writes) }

-- a write to another vertex slot leaves this one
pub view_other : (j : ℕ) (x : VertexView) (i : ℕ) → (i ≡ j → ⊥) → (d : Device) → SameView i d (step (IASetVertexBuffers j x.address x.size x.stride) d)
view_other j x i n d = record { view = update_other d.vertices j x i n; writes = update_other d.vertex_writes j (d.vertex_writes j + 1) i n }

-- a vertex slot that is written holds the view
pub view_put_lem : (i : ℕ) (x : VertexView) (d : Device) → PutView i x d (step (IASetVertexBuffers i x.address x.size x.stride) d)
view_put_lem i x d = record { view = update_here d.vertices i x i refl; rises = omega (arith, update_here d.vertex_writes i (d.vertex_writes i + 1) i refl) }
