use Rattle.std.proofs.Common.{sym, ◌∙◌, inl, inr, arith}
use Rattle.command_list.proofs.Types.{typed_pass, typed_fail, typed_end, typed_start}
use Rattle.command_list.proofs.row.BarrierRow.are_rows.Goals as goal
use Rattle.command_list.proofs.row.BarrierRow.are_rows.Goals.{else-bytes-at-ne0-via-then-bytes-at-ne0+else-bytes-at-ne2, else-bytes-at-ne0-via-else-bytes-at-ne0}

pub returns-then-bytes-at-ne2 : goal.returns-then-bytes-at-ne2
returns-then-bytes-at-ne2 c =
    typed_fail c.loop-at.at c.args.bytes.now c.loop-at-test.true c.loop-at.invariant.0 c.if-bytes-at-ne0.true c.if-bytes-at-ne2.true
    ∙ c.loop-at.invariant.1 ∙ typed_start c.args.bytes.now

pub loop-at-preserved : goal.loop-at-preserved
loop-at-preserved c = (
  omega (arith, c.loop-at.invariant.0),
  typed_pass c.loop-at.at c.args.bytes.now c.loop-at-test.true c.loop-at.invariant.0
      (elim c.else-bytes-at-ne0.branch [
        | else-bytes-at-ne0-via-then-bytes-at-ne0+else-bytes-at-ne2 w ↦ inr w.if-bytes-at-ne2.false
        | else-bytes-at-ne0-via-else-bytes-at-ne0 w ↦ inl w.if-bytes-at-ne0.false
      ]) ∙ c.loop-at.invariant.1,
)

pub returns : goal.returns
returns c = sym (typed_end c.loop-at.at c.args.bytes.now c.loop-at-test.false) ∙ c.loop-at.invariant.1 ∙ typed_start c.args.bytes.now
