use Rattle.std.proofs.Common.{◌<◌, ◌≤◌, arith}
use Rattle.std.proofs.lemmas.Nat.{one_shl}
use Rattle.layouts.proofs.Masks.{low_within, low_all}
use Rattle.layouts.proofs.mask.low.Goals as goal

pub returns-then-n-lt64 : goal.returns-then-n-lt64
returns-then-n-lt64 c =
    let few : c.args.n < 64 = omega arith in λ k. rw (one_shl c.args.n 64 few) (low_within c.args.n k few)

pub returns-else-n-lt64 : goal.returns-else-n-lt64
returns-else-n-lt64 c = let many : 64 ≤ c.args.n = omega arith in λ k. low_all c.args.n k many
