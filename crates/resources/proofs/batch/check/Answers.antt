use Rattle.std.proofs.Common.{◌≡◌, None, Option, sym, ap, ◌∙◌, rules, tests}
use Rattle.resources.specs.Barriers.{verdict, in_range, present}
use Rattle.resources.specs.Listed.{changes_of}
use Rattle.resources.proofs.Firsts.{decided}
use Rattle.resources.proofs.batch.check.Goals as goal
use Rattle.command_list.specs.Refusals.{fault_of, first_from, fault_at, before, Why}

pub returns-in_err-check_first : goal.returns-in_err-check_first
returns-in_err-check_first g c =
    let a : fault_of c.from_residual.result ≡ verdict (changes_of g.U.Uses.usage c.args.list.now) = search rules in
    record { answer = a; decided = decided (changes_of g.U.Uses.usage c.args.list.now) c.from_residual.result a }

pub returns : goal.returns
returns g c =
    let cs = changes_of g.U.Uses.usage c.args.list.now in
    let p : None ≡ fault_at 1 (first_from 0 in_range cs) = sym (ap fault_of c.in_ok-check_first.was) ∙ c.check_first.ensures in_range (λ x b q k. search (rules, tests)) in
    let q : fault_of c.check_first-2.result ≡ fault_at 3 (first_from 0 present cs) = c.check_first-2.ensures present (λ x b q k. search (rules, tests)) in
    let a : fault_of c.check_first-2.result ≡ verdict cs = q ∙ ap (λ (w : Option Why). before w (fault_at 3 (first_from 0 present cs))) p in
    record { answer = a; decided = decided cs c.check_first-2.result a }
