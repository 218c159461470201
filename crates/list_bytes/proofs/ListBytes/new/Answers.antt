use Rattle.std.proofs.Common.{ap, arith}
use Rattle.command_list.specs.Files.{is_accepted}
use Rattle.list_bytes.proofs.Listing.{began_long, began_opened}
use Rattle.list_bytes.proofs.ListBytes.new.Goals as goal

pub invariant_of-result : goal.invariant_of-result
invariant_of-result c =
    let b = c.in_ok-len.ensures in
    record {
      within = omega (arith, b.some, b.ends, began_long _ _ _ b);
      small = omega (arith, b.short, began_long _ _ _ b);
      whole = ap is_accepted b.reads;
    }

pub returns-clause-opened : goal.returns-clause-opened
returns-clause-opened c = began_opened _ _ _ c.in_ok-len.ensures
