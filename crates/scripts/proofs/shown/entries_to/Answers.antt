use Rattle.std.proofs.Common.{[], rules}
use Rattle.command_list.specs.Commands.{entry}
use Rattle.command_list.specs.Decoding.{barriers}
use Rattle.command_list.specs.Seen.{entry_numbers}
use Rattle.scripts.proofs.Listed.{row_written, row_there, not_default}
use Rattle.scripts.proofs.shown.entries_to.Goals as goal
use Rattle.scripts.proofs.shown.entries_to.Goals.{in-Some+in_ok-barrier_to, in_default}

pub loop-i-preserved : goal.loop-i-preserved
loop-i-preserved g c =
    let known =
    not_default (barriers (entry_numbers c.args.entries.bytes.now)) []
    (let said = c.known.ensures in let held = c.if-not-known.false in cc) in
    elim c.match-get.branch [
      | in-Some+in_ok-barrier_to w ↦ λ plain.
          row_written entry _ _ _ (w.in-Some.ensures.listed _ known) (c.loop-i.invariant plain)
          (let done = c.loop-i.invariant plain in search rules)
      | in_default w ↦ absurd (row_there _ _ _ (c.len-i-end.ensures.listed _ known) c.loop-i-test.true
          (w.in_default.ensures.listed _ known))
    ]
