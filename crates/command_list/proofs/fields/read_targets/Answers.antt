use Rattle.std.proofs.Common.{sym, refl, ap, ◌∙◌, rules}
use Rattle.std.proofs.lemmas.List.{take_rest}
use Rattle.std.proofs.lemmas.Result.{err_from_is_err_and}
use Rattle.std.proofs.lemmas.Bool.{cond-true, cond-false}
use Rattle.command_list.specs.Commands.{OMSetRenderTargets}
use Rattle.command_list.specs.Decoding.{wrong, takes}
use Rattle.command_list.specs.Seen.{every}
use Rattle.command_list.proofs.Runs.{decode_targets}
use Rattle.command_list.proofs.fields.read_targets.Goals as goal

pub returns-in_err-require-in-len1-up : goal.returns-in_err-require-in-len1-up
returns-in_err-require-in-len1-up c =
    let p = err_from_is_err_and c.from_residual-in_err-require-in-len1-up.result c.from_residual-in_err-require-in-len1-up.ensures.1 in
    let no = c.in_err-require-in-len1-up.ensures in
    rw (p.1, p.2) (
      ap wrong no.0.0
          ∙ sym (decode_targets _ c.args.operands.now refl c.in_ok-width-in-len1-up.ensures ∙ cond-false _ _ _ no.1),
      no.0.1,
    )

pub returns-in_ok-require-in-len1-up : goal.returns-in_ok-require-in-len1-up
returns-in_ok-require-in-len1-up c = (
  ap (λ l. takes (OMSetRenderTargets (every 8 l))) (c.over.ensures ∙ take_rest c.args.operands.now 1)
      ∙ sym (decode_targets _ c.args.operands.now refl c.in_ok-width-in-len1-up.ensures ∙ cond-true _ _ _ c.in_ok-require-in-len1-up.ensures),
  search rules,
)
