use Rattle.std.proofs.Common.{◌≡◌}
use Rattle.resources.proofs.Fills.{Filled}
use Rattle.resources.proofs.batch.fill.Given as goal

abbrev pub invariant-loop-item : goal.invariant-loop-item
invariant-loop-item g l = record {
  entries : l.guard.entries.ghost_name ≡ l.initial.guard.entries.ghost_name;
  mark : l.guard.mark.ghost_name ≡ l.initial.guard.mark.ghost_name;
  was : l.guard.was ≡ l.initial.guard.was;
  filled : Filled g.U.Uses.usage l.initial.guard.mark.now.fill l.guard.mark.now.fill l.guard.entries.now l.initial.guard.entries.now l.list l.item-index;
}
