use Rattle.std.proofs.Common.{◌+◌, ◌<◌, ◌≤◌, length, sym, refl, ap, ◌∙◌, subst, arith}
use Rattle.std.proofs.lemmas.Result.{err_from_is_err_and}
use Rattle.list_file.specs.Passing.{Holds, Stops}
use Rattle.command_list.specs.Seen.{step_at}
use Rattle.list_file.proofs.Tails.{some_step, none_step, Counted, file_none, count_start, count_more, count_end, count_stop, count_low}
use Rattle.list_file.proofs.check.Goals as goal

pub returns-in_err-reader : goal.returns-in_err-reader
returns-in_err-reader c =
    let p = err_from_is_err_and c.from_residual.result c.from_residual.ensures.1 in
    let no = c.in_err-reader.ensures in
    rw (p.1, p.2) (subst (λ v. Stops v c.in_err-reader.field-0.0) (sym (file_none c.args.file.now no.0)) no.1)

pub loop-count-init : goal.loop-count-init
loop-count-init c =
    let yes = c.in_ok-reader.ensures in
    (yes.1, subst (λ at. Counted c.args.file.now at 0) (sym yes.2) (count_start c.args.file.now yes.0))

pub returns-in_err-next : goal.returns-in_err-next
returns-in_err-next c =
    let p = err_from_is_err_and c.from_residual-in_err-next.result c.from_residual-in_err-next.ensures.1 in
    let bs = c.args.file.now in
    let f = c.in_err-next.field-0.0 in
    let e = count_stop bs _ _ _ _ _ c.loop-count.invariant.1 (c.in_err-next.ensures.gives ∙ ap (λ l. step_at l c.loop-count.reader.at) c.loop-count.invariant.0) in
    rw (p.1, p.2) (subst (λ v. Stops v f) (sym e) (refl, refl))

pub overflow_add-count : goal.overflow_add-count
overflow_add-count c = omega (arith, count_low _ _ _ c.loop-count.invariant.1)

-- one record more
more : (c : goal.In-Some) → Counted c.args.file.now c.next.new.self.at (c.loop-count.count + 1) × (c.loop-count.reader.at < c.next.new.self.at) × (c.next.new.self.at ≤ length c.args.file.now)
more c =
    count_more c.args.file.now _ _ _ _ c.loop-count.invariant.1
    (some_step _ _ _ _ _ _ c.in_ok-next.ensures.gives c.in-Some.is c.loop-count.invariant.0)

pub loop-count-smaller : goal.loop-count-smaller
loop-count-smaller c = omega (arith, (more c).1, (more c).2)

pub loop-count-preserved : goal.loop-count-preserved
loop-count-preserved c = (c.in_ok-next.ensures.same ∙ c.loop-count.invariant.0, (more c).0)

pub returns : goal.returns
returns c =
    let bs = c.args.file.now in
    let e =
    count_end bs _ _ _ c.loop-count.invariant.1
    (none_step _ _ _ _ _ c.in_ok-next.ensures.gives c.in_default.is c.loop-count.invariant.0) in
    subst (λ v. Holds v c.loop-count.count) (sym e.1) e.2
