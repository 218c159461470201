use Rattle.std.proofs.Common.{eqb, length, Some, sym, refl, ap, ◌∙◌, arith}
use Rattle.std.proofs.lemmas.Bool.{le-leb, lt-leb, and_from, and_left, and_right, not-true, not-false}
use Rattle.std.specs.Option.{option_eq}
use Rattle.command_list.specs.Commands.{unit}
use Rattle.list_writer.proofs.Rows.{total_entries}
use Rattle.list_writer.proofs.Readable.{readable_event, last_zero}
use Rattle.list_writer.proofs.writer.label_size.Goals as goal
use Rattle.list_writer.proofs.writer.label_size.Goals.{then-n-gt-MOST_UNITS-via-then-n-gt-MOST_UNITS, then-n-gt-MOST_UNITS-via-else-n-gt-MOST_UNITS+then-ne}

pub returns-then-n-gt-MOST_UNITS : goal.returns-then-n-gt-MOST_UNITS
returns-then-n-gt-MOST_UNITS g c =
    let us = g.U.Listing.items c.args.units.now in (
      sym (readable_event us)
          ∙ (elim c.then-n-gt-MOST_UNITS.branch [
            | then-n-gt-MOST_UNITS-via-then-n-gt-MOST_UNITS w ↦ and_right _ _ (lt-leb (length us) 32767 (omega (arith, w.if-n-gt-MOST_UNITS.true, c.count-n.ensures)))
            | then-n-gt-MOST_UNITS-via-else-n-gt-MOST_UNITS+then-ne w ↦ and_left _ _ (sym (ap (λ o. option_eq eqb o (Some 0)) w.last.ensures ∙ last_zero us) ∙ not-true _ (sym w.ne.ensures ∙ w.if-ne.true))
          ]),
      (refl, refl),
    )

pub returns : goal.returns
returns g c =
    let us = g.U.Listing.items c.args.units.now in (
      sym (readable_event us)
          ∙ and_from _ _ (sym (ap (λ o. option_eq eqb o (Some 0)) c.last.ensures ∙ last_zero us) ∙ not-false _ (sym c.ne.ensures ∙ c.if-ne.false)) (le-leb (length us) 32767 (omega (arith, c.if-n-gt-MOST_UNITS.false, c.count-n.ensures))),
      omega (arith, c.count-n.ensures, total_entries unit 2 (λ u. refl) us),
    )
