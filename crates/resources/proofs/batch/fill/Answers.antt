use Rattle.std.proofs.Common.{sym, ◌∙◌}
use Rattle.std.proofs.lemmas.Result.{err_from_is_err_and}
use Rattle.resources.proofs.Fills.{turn_keeps, turn_fills, turn_full}
use Rattle.resources.proofs.batch.fill.Goals as goal
use Rattle.resources.proofs.batch.fill.Goals.{in-Some+in_ok-push, in_default}

pub returns-in_err-push-clause-put : goal.returns-in_err-push-clause-put
returns-in_err-push-clause-put g c =
    let p = err_from_is_err_and c.from_residual.result c.from_residual.ensures.1 in
    let f = c.in_err-push.ensures.put in
    let k = c.loop-item in
    let full = turn_full g.U.Uses.usage c.args.guard.now.mark.now.fill k.guard.mark.now.fill k.guard.entries.now c.args.guard.now.entries.now c.args.list.now k.item-index c.item-item.result
    c.loop-item-test.true c.item-item.is k.invariant.filled c.in-Some.made (sym c.in-Some.ensures) f.3 in
    rw (p.1, p.2) (f.0, full.0, full.1)

pub loop-item-preserved : goal.loop-item-preserved
loop-item-preserved g c =
    let k = c.loop-item in
    let inv = k.invariant in
    elim c.match-barrier.branch [
      | in-Some+in_ok-push w ↦
          let e = w.in_ok-push.ensures in
          rw w.guard-is (record {
            entries = e.same_entries ∙ inv.entries;
            mark = e.same_mark ∙ inv.mark;
            was = e.was ∙ inv.was;
            filled = turn_fills g.U.Uses.usage c.args.guard.now.mark.now.fill k.guard.mark.now.fill k.guard.entries.now c.args.guard.now.entries.now c.args.list.now k.item-index c.item-item.result
                c.loop-item-test.true c.item-item.is inv.filled w.in-Some.made w.push.new.self.mark.now.fill w.push.new.self.entries.now
                (sym w.in-Some.ensures) e.put.0 e.put.1 e.put.2;
          })
      | in_default w ↦
          rw w.guard-is (record {
            entries = inv.entries;
            mark = inv.mark;
            was = inv.was;
            filled = turn_keeps g.U.Uses.usage c.args.guard.now.mark.now.fill k.guard.mark.now.fill k.guard.entries.now c.args.guard.now.entries.now c.args.list.now k.item-index c.item-item.result
                c.loop-item-test.true c.item-item.is inv.filled (sym c.barrier.ensures ∙ w.in_default.is);
          })
    ]
