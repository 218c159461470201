use Rattle.std.proofs.Common.{◌≡◌, ◌<◌, length, rules}
use Rattle.resources.specs.Barriers.{barriers_of}
use Rattle.resources.specs.Listed.{changes_of}
use Rattle.resources.proofs.Records.{made_is, batch_asked, batch_none}
use Rattle.resources.proofs.batch.batch_in.Goals as goal

pub returns-clause-batched : goal.returns-clause-batched
returns-clause-batched g c =
    let part = c.made-made.result.now in
    let es = barriers_of (changes_of g.U.Uses.usage c.args.list.now) in
    let some : 0 < length part = search rules in
    let put = made_is (length c.args.entries.now) c.args.mark.now.fill c.fill.new.guard.mark.now.fill es part c.fill.new.guard.entries.now
    (search rules) (search rules) (search rules) (search rules) in
    batch_asked (g.R.Recorder.meaning c.args.recorder.now) (g.R.Recorder.meaning c.resource_barrier.new.self) (length c.args.entries.now) c.args.mark.now.fill c.fill.new.guard.mark.now.fill es part
    c.if-entries-gt-MOST_ENTRIES.false put c.resource_barrier.result some c.resource_barrier.ensures

pub returns-then-is_empty-clause-batched : goal.returns-then-is_empty-clause-batched
returns-then-is_empty-clause-batched g c =
    let part = c.made-made.result.now in
    let es = barriers_of (changes_of g.U.Uses.usage c.args.list.now) in
    let none : length part ≡ 0 = search rules in
    let put = made_is (length c.args.entries.now) c.args.mark.now.fill c.fill.new.guard.mark.now.fill es part c.fill.new.guard.entries.now
    (search rules) (search rules) (search rules) (search rules) in
    let m = g.R.Recorder.meaning c.args.recorder.now in
    batch_none m m (length c.args.entries.now) c.args.mark.now.fill c.fill.new.guard.mark.now.fill es part c.if-entries-gt-MOST_ENTRIES.false put none
