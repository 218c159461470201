use Rattle.std.proofs.Common.{sym, ◌∙◌, arith}
use Rattle.std.proofs.lemmas.Bool.{eqb-false}
use Rattle.list_writer.proofs.Readable.{began}
use Rattle.list_writer.proofs.writer.begin.Goals as goal

pub returns : goal.returns
returns c =
    let some = eqb-false _ 0 (sym c.is_empty.ensures ∙ c.if-is_empty.false) in
    began c.args.bytes.now (omega (arith, some)) c.if-bytes-gt-MOST_BYTES.false
