use Rattle.std.proofs.Common.{map, arith}
use Rattle.std.proofs.lemmas.List.{length-map}
use Rattle.command_list.specs.Seen.{given_command}
use Rattle.list_file.proofs.Sizes.{sofar_start, began_length, given_refusal, given_more, sofar_all}
use Rattle.list_file.proofs.write_all.Goals as goal

pub loop-command-init : goal.loop-command-init
loop-command-init c = sofar_start _ _ _ _ c.in_ok-end.ensures

pub returns-in_err-end-2 : goal.returns-in_err-end-2
returns-in_err-end-2 c =
    let b = began_length _ _ _ c.in_ok-end.ensures in
    absurd (given_refusal c.args.commands.now _ _ c.loop-command-test.true _ _ _ c.loop-command.invariant (omega (arith, b, c.requires.fits)) _ _ c.requires.readable (omega (arith, b, c.requires.short)) c.in_err-end-2.ensures)

pub loop-command-preserved : goal.loop-command-preserved
loop-command-preserved c =
    let b = began_length _ _ _ c.in_ok-end.ensures in
    given_more c.args.commands.now _ _ c.loop-command-test.true _ _ _ c.loop-command.invariant (omega (arith, b, c.requires.fits)) _ _ c.in_ok-end-2.ensures

pub returns : goal.returns
returns c = sofar_all (map given_command c.args.commands.now) _ _ _ _ _ _ c.in_ok-end.ensures (simp length-map c.loop-command-test.false) c.loop-command.invariant
