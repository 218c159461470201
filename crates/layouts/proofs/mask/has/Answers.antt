use Rattle.std.proofs.Common.{◌/◌, ◌^◌, ◌<◌, ◌≤◌, eqb, sym, ap, ◌∙◌, arith}
use Rattle.std.proofs.lemmas.Nat.{and_mask}
use Rattle.std.proofs.lemmas.Bool.{le-ltb}
use Rattle.layouts.proofs.Masks.{bit_shift, bit_high}
use Rattle.layouts.proofs.mask.has.Goals as goal

pub returns-then-slot-lt64 : goal.returns-then-slot-lt64
returns-then-slot-lt64 c = ap (λ d. eqb d 1) (and_mask (c.args.mask / 2 ^ c.args.slot) 1) ∙ bit_shift c.args.slot c.args.mask

pub returns-else-slot-lt64 : goal.returns-else-slot-lt64
returns-else-slot-lt64 c =
    let fit : c.args.mask < 2 ^ 64 = omega arith in
    let past : 64 ≤ c.args.slot = omega arith in
    le-ltb c.args.slot 64 past ∙ sym (bit_high 64 c.args.mask c.args.slot fit past)
