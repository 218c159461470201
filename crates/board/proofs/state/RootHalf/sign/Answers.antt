use Rattle.std.proofs.Common.{◌≡◌, ◌≢◌, ℕ, List, get_or, sym, ◌∙◌, arith}
use Rattle.std.proofs.lemmas.Bool.{cond-false, ne_eqb}
use Rattle.std.proofs.lemmas.Grind.{common_steps}
use Rattle.device.specs.Devices.{signed}
use Rattle.board.specs.declared.state.RootHalf.{RootHalf}
use Rattle.board.specs.declared.state.RootSlot.{RootSlot}
use Rattle.board.specs.declared.state.RootSlot.TheVariants.{Unset}
use Rattle.board.specs.declared.state.Slot.{Slot}
use Rattle.board.specs.Boards.{slot_of, roots_of, no_slot}
use Rattle.board.proofs.state.RootHalf.sign.Goals as goal

-- a half under another signature, with all its slots unset
signed_roots : (h : RootHalf) (s : ℕ) (xs : List (Slot RootSlot)) → h.signature ≢ s
    → ((k : ℕ) → (get_or xs k no_slot).held ≡ Unset) → ((k : ℕ) → (get_or xs k no_slot).writes ≡ (get_or h.slots k no_slot).writes)
    → roots_of (record { signature = s; slots = xs }) ≡ signed s (roots_of h)
signed_roots h s xs other all kept =
    (λ i. record { signature = s; slots = λ q. slot_of (all q i); writes = λ q. kept q i })
    ∙ sym (cond-false _ _ _ (ne_eqb _ _ other))

pub returns-after-loop-slot : goal.returns-after-loop-slot
returns-after-loop-slot c =
    let l = c.loop-slot in
    let all : (k : ℕ) → (get_or l.slot-items k no_slot).held ≡ Unset = λ k. grind (arith, common_steps, l.invariant.unset k) in
    signed_roots c.args.self.now c.args.signature l.slot-items c.if-self-signature.true all l.invariant.kept
