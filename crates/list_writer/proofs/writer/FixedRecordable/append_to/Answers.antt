use Rattle.std.proofs.Common.{sym, refl, ◌∙◌}
use Rattle.list_writer.proofs.Readable.{appended_as, readable_fixed}
use Rattle.list_writer.proofs.writer.FixedRecordable.append_to.Goals as goal

pub returns : goal.returns
returns c = appended_as _ _ _ _ _ _ _ (sym (readable_fixed c.args.self) ∙ sym c.in_range.ensures ∙ c.if-not-in_range.false) refl refl c.append_in_range.ensures
