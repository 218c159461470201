use Rattle.std.proofs.Common.{length, sym, refl, ◌∙◌, ⊎_elim, arith}
use Rattle.std.proofs.lemmas.Bool.{lt-ltb, le-ltb, le-leb, lt-leb, and_from, and_left, and_right, cases_lt}
use Rattle.command_list.specs.Commands.{entry, entry_width, most_entries}
use Rattle.list_writer.proofs.Rows.{total_entries}
use Rattle.list_writer.proofs.Readable.{readable_barriers}
use Rattle.list_writer.proofs.writer.barriers_size.Goals as goal
use Rattle.list_writer.proofs.writer.barriers_size.Goals.{then-n-gt-MOST_ENTRIES-via-then-n-gt-MOST_ENTRIES, then-n-gt-MOST_ENTRIES-via-else-n-gt-MOST_ENTRIES+then-count-eq0}

pub returns-then-n-gt-MOST_ENTRIES : goal.returns-then-n-gt-MOST_ENTRIES
returns-then-n-gt-MOST_ENTRIES g c =
    let es = g.E.Listing.items c.args.entries.now in (
      sym (readable_barriers es)
          ∙ (elim c.then-n-gt-MOST_ENTRIES.branch [
            | then-n-gt-MOST_ENTRIES-via-then-n-gt-MOST_ENTRIES w ↦
                ⊎_elim (λ h. and_right _ _ (lt-leb (length es) most_entries (omega (arith, w.if-n-gt-MOST_ENTRIES.true, c.count_if_any-n.ensures h))))
                (λ h. and_left _ _ (le-ltb 0 (length es) (omega (arith, h))))
                (cases_lt 0 (length es))
            | then-n-gt-MOST_ENTRIES-via-else-n-gt-MOST_ENTRIES+then-count-eq0 w ↦
                and_left _ _ (le-ltb 0 (length es) (omega (arith, w.if-count-eq0.true, w.count.ensures)))
          ]),
      (refl, refl),
    )

pub returns : goal.returns
returns g c =
    let es = g.E.Listing.items c.args.entries.now in
    let some = c.count_if_any-n.ensures (omega (arith, c.if-count-eq0.false, c.count.ensures)) in (
      sym (readable_barriers es)
          ∙ and_from _ _ (lt-ltb 0 (length es) (omega (arith, c.if-count-eq0.false, c.count.ensures))) (le-leb (length es) most_entries (omega (arith, c.if-n-gt-MOST_ENTRIES.false, some))),
      omega (arith, some, total_entries entry entry_width (λ e. refl) es),
    )
