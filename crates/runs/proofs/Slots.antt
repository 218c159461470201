-- What a root slot's value does to its half, and that its commands do that and no more.
use Rattle.std.proofs.Common.{◌≡◌, ℕ, ◌+◌, ◌<◌, true, [], ◌∷◌, sym, refl, subst, arith}
use Rattle.std.proofs.lemmas.Bool.{false≢true}
use Rattle.command_list.specs.declared.command.Half.{Half}
use Rattle.device.specs.Devices.{Device, Roots, table, view, words_of, written, worded, play}
use Rattle.device.specs.Writes.{Begins}
use Rattle.device.proofs.Updates.{update_here}
use Rattle.device.proofs.Slots.{worder, Kept, kept_none, written_other, worder_other, worder_signature, worder_begins, worder_is, worder_rises, Rooted, rooted_one, rooted_none, words_played}
use Rattle.passes.specs.Flush.{Value, nothing, table_at, view_at, words_are, slot_commands, Holds}
use Rattle.passes.proofs.Fitting.{solid}

-- a slot that is given a value
abbrev pub given : ℕ → Value → Roots → Roots
given k nothing r = r
given k (table_at a) r = written k (table a) r
given k (view_at a) r = written k (view a) r
given k (words_are vs) r = worder k 0 vs r

-- a slot was written, and holds a value
pub record Put (q : ℕ) (v : Value) (r s : Roots) : Type 0 where
  pub holds : Holds v (s.slots q)
  pub rises : r.writes q < s.writes q

pub put_between : (q : ℕ) (v : Value) (r s t u : Roots) → Kept q r s → Put q v s t → Kept q t u → Put q v r u
put_between q v r s t u a b c = record {
  holds = subst (λ x. Holds v x) (sym c.slots) b.holds;
  rises = omega (arith, a.writes, b.rises, c.writes);
}

pub given_other : (k : ℕ) (v : Value) (r : Roots) (q : ℕ) → (q ≡ k → ⊥) → Kept q r (given k v r)
given_other k nothing r q n = kept_none q r
given_other k (table_at a) r q n = written_other k (table a) r q n
given_other k (view_at a) r q n = written_other k (view a) r q n
given_other k (words_are vs) r q n = worder_other k 0 vs r q n

pub given_signature : (k : ℕ) (v : Value) (r : Roots) → (given k v r).signature ≡ r.signature
given_signature k nothing r = refl
given_signature k (table_at a) r = refl
given_signature k (view_at a) r = refl
given_signature k (words_are vs) r = worder_signature k 0 vs r

pub given_put : (k : ℕ) (v : Value) (r : Roots) → solid v ≡ true → Put k v r (given k v r)
given_put k nothing r e = absurd (false≢true e)
given_put k (table_at a) r e = record { holds = update_here r.slots k (table a) k refl; rises = omega (arith, update_here r.writes k (r.writes k + 1) k refl) }
given_put k (view_at a) r e = record { holds = update_here r.slots k (view a) k refl; rises = omega (arith, update_here r.writes k (r.writes k + 1) k refl) }
given_put k (words_are []) r e = absurd (false≢true e)
given_put k (words_are (v ∷ vs)) r e =
    let is = worder_is k 0 v vs r in
    record {
      holds = (is.0, is.1, subst (λ s. Begins (words_of s) 0 (v ∷ vs)) is.1 (worder_begins k 0 (v ∷ vs) r));
      rises = omega (arith, worder_rises k 1 vs (worded k 0 v r), update_here r.writes k (r.writes k + 1) k refl);
    }

-- the commands of a value give it to its slot
pub slot_played : (h : Half) (k : ℕ) (v : Value) (d : Device) → Rooted h (given k v) d (play (slot_commands h k v) d)
slot_played h k nothing d = rooted_none h d
slot_played h k (table_at a) d = rooted_one h (written k (table a)) _ d
slot_played h k (view_at a) d = rooted_one h (written k (view a)) _ d
slot_played h k (words_are vs) d = words_played h k 0 vs d
