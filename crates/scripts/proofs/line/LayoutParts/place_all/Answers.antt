use Rattle.std.proofs.Common.{rules}
use Rattle.scripts.proofs.Folds.{all_placed, place_fails, place_more}
use Rattle.scripts.proofs.line.LayoutParts.place_all.Goals as goal

pub returns-in_err-in_range : goal.returns-in_err-in_range
returns-in_err-in_range c =
    let k = place_fails c.args.self.now c.loop-part.self c.loop-part.self c.args.all.now c.loop-part.part-index c.loop-part.in_range c.loop-part.invariant _ c.loop-part-test.true c.in_err-in_range.ensures.1 in
    search (rules, k)

pub loop-part-preserved : goal.loop-part-preserved
loop-part-preserved c =
    place_more c.args.self.now c.loop-part.self c.place.new.self c.args.all.now c.loop-part.part-index c.loop-part.in_range c.loop-part.invariant _ c.loop-part-test.true c.in_ok-in_range.field-0 c.in_ok-in_range.ensures

pub returns : goal.returns
returns c =
    all_placed c.args.self.now c.loop-part.self c.loop-part.self c.args.all.now c.loop-part.part-index c.loop-part.in_range c.loop-part.invariant c.loop-part-test.false
