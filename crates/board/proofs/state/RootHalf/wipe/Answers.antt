use Rattle.std.proofs.Common.{◌≡◌, ℕ, ◌<◌, length, get_or, set, Some, sym, ap, ◌∙◌, arith}
use Rattle.std.proofs.lemmas.Grind.{common_steps}
use Rattle.device.specs.Devices.{update, wiped}
use Rattle.device.proofs.Arrays.{read_set}
use Rattle.board.specs.declared.state.RootHalf.{RootHalf}
use Rattle.board.specs.declared.state.RootSlot.TheVariants.{Unset}
use Rattle.board.specs.Boards.{slot_of, roots_of, no_slot}
use Rattle.board.proofs.state.RootHalf.wipe.Goals as goal

-- a half with one slot unset
wiped_roots : (h : RootHalf) (i : ℕ) → i < length h.slots → roots_of (record h { slots = set h.slots i (record { held = Unset; writes = (get_or h.slots i no_slot).writes }) }) ≡ wiped (Some i) (roots_of h)
wiped_roots h i e =
    let gone = record no_slot { writes = (get_or h.slots i no_slot).writes } in λ j. record {
      signature = h.signature;
      slots = read_set (λ s. slot_of s.held) h.slots i gone no_slot e j;
      writes = (read_set (λ s. s.writes) h.slots i gone no_slot e ∙ same (roots_of h).writes i) j;
    }
  where
    same : (f : ℕ → ℕ) (n : ℕ) → update f n (f n) ≡ f
    same f n = grind (arith, common_steps)

pub returns-in-Some : goal.returns-in-Some
returns-in-Some c =
    let roots = roots_of c.args.self.now in
    wiped_roots c.args.self.now c.in-Some.i (grind arith) ∙ ap (λ s. wiped s roots) (sym c.in-Some.is)
