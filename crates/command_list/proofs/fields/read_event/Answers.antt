use Rattle.std.proofs.Common.{eqb, sym, ap, ◌∙◌, arith, rules}
use Rattle.std.proofs.lemmas.Result.{err_from_is_err_and}
use Rattle.std.proofs.lemmas.Bool.{cond-true, cond-false}
use Rattle.command_list.specs.Commands.{BeginEvent}
use Rattle.command_list.specs.Decoding.{wrong, takes}
use Rattle.command_list.specs.Seen.{every}
use Rattle.command_list.proofs.Runs.{decode_event}
use Rattle.command_list.proofs.fields.read_event.Goals as goal

pub returns-in_err-require : goal.returns-in_err-require
returns-in_err-require c =
    let p = err_from_is_err_and c.from_residual.result c.from_residual.ensures.1 in
    let no = c.in_err-require.ensures in
    rw (p.1, p.2) (
      ap wrong no.0.0
          ∙ sym (decode_event c.args.operands.now (omega (arith, c.if-n-eq0.false)) c.if-n-ne0.false
          ∙ cond-false _ _ _ (ap (λ n. eqb n 0) (sym c.get.ensures) ∙ no.1)),
      no.0.1,
    )

pub returns : goal.returns
returns c = (
  ap (λ bs. takes (BeginEvent (every 2 bs))) c.over.ensures
      ∙ sym (decode_event c.args.operands.now (omega (arith, c.if-n-eq0.false)) c.if-n-ne0.false
      ∙ cond-true _ _ _ (ap (λ n. eqb n 0) (sym c.get.ensures) ∙ c.in_ok-require.ensures)),
  search rules,
)
