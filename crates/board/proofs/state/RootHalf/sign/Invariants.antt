use Rattle.std.proofs.Common.{◌≡◌, ℕ, ◌<◌, length, get_or}
use Rattle.board.specs.declared.state.RootSlot.TheVariants.{Unset}
use Rattle.board.specs.Boards.{no_slot}
use Rattle.board.proofs.state.RootHalf.sign.Given as goal

-- the slots so far are unset, and no write is lost
abbrev pub invariant-loop-slot : goal.invariant-loop-slot
invariant-loop-slot l = record {
  long : length l.slot-items ≡ 64;
  unset : (k : ℕ) → k < l.slot-index → (get_or l.slot-items k no_slot).held ≡ Unset;
  kept : (k : ℕ) → (get_or l.slot-items k no_slot).writes ≡ (get_or l.initial.slot-items k no_slot).writes;
}
