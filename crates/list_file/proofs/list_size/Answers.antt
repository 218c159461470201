use Rattle.std.proofs.Common.{map, length, sym, refl, ap, ◌∙◌}
use Rattle.std.proofs.lemmas.List.{take_all, length-map}
use Rattle.std.proofs.lemmas.Result.{err_from_is_err_and}
use Rattle.command_list.specs.Files.{encoded}
use Rattle.list_file.specs.Passing.{all_readable}
use Rattle.command_list.specs.Seen.{given_command}
use Rattle.list_file.proofs.Sizes.{size_more, readable_more, too_many, not_all}
use Rattle.list_file.proofs.list_size.Goals as goal

pub returns-in_err-total : goal.returns-in_err-total
returns-in_err-total c =
    let p = err_from_is_err_and c.from_residual.result c.from_residual.ensures.1 in
    let no = c.in_err-total.ensures in
    rw (p.1, p.2) (no.1, λ a _. not_all c.args.commands.now _ _ c.loop-command-test.true no.0 a)

pub returns-then-total-gt-MOST_BYTES : goal.returns-then-total-gt-MOST_BYTES
returns-then-total-gt-MOST_BYTES c =
    ((refl, refl), λ _ few. too_many c.args.commands.now _ _ c.loop-command-test.true _ _ c.loop-command.invariant.1 c.in_ok-total.ensures.1 c.if-total-gt-MOST_BYTES.true few)

pub loop-command-preserved : goal.loop-command-preserved
loop-command-preserved c =
    let yes = c.in_ok-total.ensures in (
      readable_more c.args.commands.now _ _ c.loop-command-test.true c.loop-command.invariant.0 yes.0,
      size_more c.args.commands.now _ _ c.loop-command-test.true _ _ c.loop-command.invariant.1 yes.1,
      c.if-total-gt-MOST_BYTES.false,
    )

pub returns : goal.returns
returns c =
    let gs = map given_command c.args.commands.now in
    let e = take_all c.loop-command.command-index gs (simp length-map c.loop-command-test.false) in
    (sym (ap all_readable e) ∙ c.loop-command.invariant.0, c.loop-command.invariant.1 ∙ ap (λ l. length (encoded l)) e, c.loop-command.invariant.2)
