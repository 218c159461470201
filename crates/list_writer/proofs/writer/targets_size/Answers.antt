use Rattle.std.proofs.Common.{length, sym, refl, ◌∙◌, arith}
use Rattle.std.proofs.lemmas.Bool.{le-leb}
use Rattle.command_list.specs.Commands.{handle}
use Rattle.list_writer.proofs.Rows.{total_entries}
use Rattle.list_writer.proofs.Readable.{readable_targets}
use Rattle.list_writer.proofs.writer.targets_size.Goals as goal

pub returns : goal.returns
returns g c =
    let hs = g.H.Listing.items c.args.handles.now in (
      sym (readable_targets hs) ∙ le-leb (length hs) 8 (omega (arith, c.if-n-gt-MOST_TARGETS.false, c.count-n.ensures)),
      omega (arith, c.count-n.ensures, total_entries handle 8 (λ h. refl) hs),
    )
