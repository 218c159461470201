use Rattle.std.proofs.Common.{drop, sym, ap, ◌∙◌, arith, length-drop}
use Rattle.std.proofs.lemmas.List.{take_rest}
use Rattle.std.proofs.lemmas.Result.{err_from_is_err_and}
use Rattle.command_list.specs.Decoding.{front}
use Rattle.command_list.specs.Seen.{number_of, stopped, step_of, step_at, front_of}
use Rattle.command_list.proofs.Fronts.{front_within}
use Rattle.command_list.proofs.reader.Reader.next.Goals as goal

pub returns-in_err-record-clause-gives : goal.returns-in_err-record-clause-gives
unfolding step_at
returns-in_err-record-clause-gives c =
    let at = c.args.self.now.at in
    let f = c.in_err-record.field-0.0 in
    let p = err_from_is_err_and c.from_residual.result c.from_residual.ensures.1 in
    rw (p.1, p.2)
    (ap (λ q. stopped (number_of f.number) q at) c.in_err-record.ensures.place
    ∙ ap (λ x. step_of x at) (c.in_err-record.ensures.says ∙ ap front (take_rest c.args.self.now.file.now at)))

pub returns-in_default-clause-gives : goal.returns-in_default-clause-gives
unfolding step_at
returns-in_default-clause-gives c =
    let at = c.args.self.now.at in
    ap (λ x. step_of x at)
    (sym (ap front_of c.in_default.is) ∙ c.in_ok-record.ensures.says ∙ ap front (take_rest c.args.self.now.file.now at))

pub overflow_add-self : goal.overflow_add-self
overflow_add-self c =
    let at = c.args.self.now.at in
    let bs = c.args.self.now.file.now in
    let w = front_within (drop at bs) _ _ (sym (c.in_ok-record.ensures.says ∙ ap front (take_rest bs at)) ∙ ap front_of c.in-Some.is) in
    omega (arith, w.1, length-drop at bs)

pub invariant_of-self : goal.invariant_of-self
invariant_of-self c =
    let at = c.args.self.now.at in
    let bs = c.args.self.now.file.now in
    let w = front_within (drop at bs) _ _ (sym (c.in_ok-record.ensures.says ∙ ap front (take_rest bs at)) ∙ ap front_of c.in-Some.is) in
    record { within = omega (arith, w.0, w.1, length-drop at bs, c.args.self.now.within) }

pub returns-clause-gives : goal.returns-clause-gives
unfolding step_at
returns-clause-gives c =
    let at = c.args.self.now.at in
    ap (λ x. step_of x at)
    (sym (ap front_of c.in-Some.is) ∙ c.in_ok-record.ensures.says ∙ ap front (take_rest c.args.self.now.file.now at))
