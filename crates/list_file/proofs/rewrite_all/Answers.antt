use Rattle.std.proofs.Common.{sym, ap, ◌∙◌, subst, arith}
use Rattle.command_list.specs.Seen.{step_at, command_of}
use Rattle.list_writer.specs.Writing.{Wrote, Unwritten}
use Rattle.list_file.proofs.Tails.{some_step, none_step, Again, again_start, again_more, again_end, shorter, not_begun, not_open, not_stopped, not_unwritten}
use Rattle.list_file.proofs.rewrite_all.Goals as goal

pub returns-in_err-reader : goal.returns-in_err-reader
returns-in_err-reader c =
    absurd (not_open c.args.file.now c.requires.takes c.in_err-reader.ensures.0)

pub returns-in_err-end : goal.returns-in_err-end
returns-in_err-end c =
    absurd (not_begun c.args.file.now c.args.out.now _ _ c.in_ok-reader.ensures.0 c.requires.fits c.in_err-end.ensures)

pub loop-record-init : goal.loop-record-init
loop-record-init c =
    let yes = c.in_ok-reader.ensures in
    let s = again_start c.args.file.now c.args.out.now _ _ yes.0 c.requires.takes c.requires.fits c.in_ok-end.ensures in
    (yes.1, s.0 ∙ sym yes.2, subst (λ at. Again c.args.file.now at c.begin.new.bytes) (sym yes.2) s.1)

pub returns-in_err-record : goal.returns-in_err-record
returns-in_err-record c =
    absurd (not_stopped _ _ _ c.loop-record.invariant.2 _ _ _ (c.in_err-record.ensures.gives ∙ ap (λ l. step_at l c.loop-record.reader.at) c.loop-record.invariant.0))

pub returns-in_err-end-2 : goal.returns-in_err-end-2
returns-in_err-end-2 c =
    absurd (not_unwritten _ _ _ c.loop-record.invariant.2 _ _ (λ i. omega (arith, c.type_inv.file i)) (some_step _ _ _ _ _ _ c.in_ok-record.ensures.gives c.in-Some.is c.loop-record.invariant.0) _ _
    (subst (λ n. Unwritten (command_of c.in-Some.record) c.loop-record.out n c.in_err-end-2.field-0.0 c.append_to.new.bytes) c.loop-record.invariant.1 c.in_err-end-2.ensures))

pub loop-record-smaller : goal.loop-record-smaller
loop-record-smaller c =
    shorter _ _ _ c.loop-record.invariant.2 _ _ (λ i. omega (arith, c.type_inv.file i)) (some_step _ _ _ _ _ _ c.in_ok-record.ensures.gives c.in-Some.is c.loop-record.invariant.0)

pub loop-record-preserved : goal.loop-record-preserved
loop-record-preserved c =
    let a =
    again_more _ _ _ c.loop-record.invariant.2 _ _ (λ i. omega (arith, c.type_inv.file i)) (some_step _ _ _ _ _ _ c.in_ok-record.ensures.gives c.in-Some.is c.loop-record.invariant.0) _ _
    (subst (λ n. Wrote (command_of c.in-Some.record) c.loop-record.out n c.in_ok-end-2.end c.append_to.new.bytes) c.loop-record.invariant.1 c.in_ok-end-2.ensures) in
    (c.in_ok-record.ensures.same ∙ c.loop-record.invariant.0, a.0, a.1)

pub returns : goal.returns
returns c =
    again_end _ _ _ c.loop-record.invariant.2 _
    (none_step _ _ _ _ _ c.in_ok-record.ensures.gives c.in_default.is c.loop-record.invariant.0)
