use Rattle.std.proofs.Common.{◌*◌, length, sym, ap, ◌∙◌, arith}
use Rattle.device.specs.Meaning.{sizes}
use Rattle.passes.specs.Flush.{element_value, slot_commands}
use Rattle.passes.specs.State.{bound_of}
use Rattle.encoder.proofs.Coming.{words_size}
use Rattle.encoder.proofs.flush.RootTableTable.size.Goals as goal

pub overflow_mul-result : goal.overflow_mul-result
overflow_mul-result c = omega (arith, c.used_immediates.ensures.few)

pub returns-in-Immediates-clause-value : goal.returns-in-Immediates-clause-value
returns-in-Immediates-clause-value c =
    let h = c.args.self.now.half in
    let k = c.args.slot in
    let b = bound_of c.args.self.now.roots.now in
    sym (ap (λ e. sizes (slot_commands h k (element_value h b e))) c.in-Immediates.is ∙ words_size h k 0 _ ∙ ap (λ xs. 9 * length xs) (sym c.used_immediates.ensures.words))

pub returns-in-Immediates-clause-small : goal.returns-in-Immediates-clause-small
returns-in-Immediates-clause-small c = omega (arith, c.used_immediates.ensures.few)
