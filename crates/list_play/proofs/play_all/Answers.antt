use Rattle.std.proofs.Common.{sym, ap, ◌∙◌, subst, arith}
use Rattle.command_list.specs.Seen.{step_at}
use Rattle.list_file.proofs.Tails.{some_step, none_step, not_open}
use Rattle.list_play.proofs.Passes.{Passed, pass_start, pass_more, pass_end, pass_shorter, pass_not_stopped, pass_not_refused}
use Rattle.list_play.proofs.play_all.Goals as goal

pub returns-in_err-reader : goal.returns-in_err-reader
returns-in_err-reader g c =
    absurd (not_open c.args.file.now c.requires.takes c.in_err-reader.ensures.0)

pub loop-record-init : goal.loop-record-init
loop-record-init g c =
    let yes = c.in_ok-reader.ensures in
    let m = g.R.Recorder.meaning c.args.recorder.now in
    (yes.1, subst (λ at. Passed c.args.file.now at m m) (sym yes.2) (pass_start c.args.file.now m yes.0))

pub returns-in_err-record : goal.returns-in_err-record
returns-in_err-record g c =
    absurd (pass_not_stopped _ _ _ _ c.loop-record.invariant.1 _ _ _ c.requires.takes (c.in_err-record.ensures.gives ∙ ap (λ l. step_at l c.loop-record.reader.at) c.loop-record.invariant.0))

pub loop-record-smaller : goal.loop-record-smaller
loop-record-smaller g c =
    pass_shorter _ _ _ _ c.loop-record.invariant.1 _ _ (λ i. omega (arith, c.type_inv.file i)) (some_step _ _ _ _ _ _ c.in_ok-record.ensures.gives c.in-Some.is c.loop-record.invariant.0)

pub loop-record-preserved : goal.loop-record-preserved
loop-record-preserved g c = (
  c.in_ok-record.ensures.same ∙ c.loop-record.invariant.0,
  pass_more _ _ _ _ c.loop-record.invariant.1 _ _ (λ i. omega (arith, c.type_inv.file i)) (some_step _ _ _ _ _ _ c.in_ok-record.ensures.gives c.in-Some.is c.loop-record.invariant.0) _ c.in_ok-record-2.ensures,
)

pub returns-in_err-record-2 : goal.returns-in_err-record-2
returns-in_err-record-2 g c =
    absurd (pass_not_refused _ _ _ _ c.loop-record.invariant.1 _ _ (λ i. omega (arith, c.type_inv.file i)) (some_step _ _ _ _ _ _ c.in_ok-record.ensures.gives c.in-Some.is c.loop-record.invariant.0) _ _ c.requires.fits c.in_err-record-2.ensures)

pub returns : goal.returns
returns g c =
    pass_end _ _ _ _ c.loop-record.invariant.1 _
    (none_step _ _ _ _ _ c.in_ok-record.ensures.gives c.in_default.is c.loop-record.invariant.0)
