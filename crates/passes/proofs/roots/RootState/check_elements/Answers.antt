use Rattle.std.proofs.Common.{◌≡◌, false, true, Some, ap, ◌∙◌, sym, arith}
use Rattle.command_list.specs.declared.fault.Number.TheVariants as number
use Rattle.layouts.specs.Layouts.{owner_in}
use Rattle.passes.specs.Account.{fits_owner}
use Rattle.passes.specs.State.{bound_of}
use Rattle.passes.proofs.Unfit.{unfit_next, unfit_here, unfit_end}
use Rattle.passes.proofs.roots.RootState.check_elements.Goals as goal
use Rattle.command_list.specs.Refusals.{fault_at}
use Rattle.command_list.proofs.Refusing.{fault_is}

pub returns-then-not-fits : goal.returns-then-not-fits
returns-then-not-fits c =
    let l = c.args.layout.now in
    let f = (bound_of c.args.self.now).elements in
    let k = c.loop-slot.slot in
    let no' : fits_owner (owner_in l k) (f k) ≡ false = sym (ap (λ o. fits_owner o (f k)) c.owner.ensures) ∙ sym c.fits.ensures ∙ c.if-not-fits.true in
    ap Some (fault_is c.at.result number.Unfit k c.at.ensures)
    ∙ sym (ap (fault_at 8) (c.loop-slot.invariant ∙ unfit_here l f k l.total_root_elements (omega arith) no'))

pub loop-slot-preserved : goal.loop-slot-preserved
loop-slot-preserved c =
    let l = c.args.layout.now in
    let f = (bound_of c.args.self.now).elements in
    let k = c.loop-slot.slot in
    let fit : fits_owner (owner_in l k) (f k) ≡ true = sym (ap (λ o. fits_owner o (f k)) c.owner.ensures) ∙ sym c.fits.ensures ∙ c.if-not-fits.false in
    c.loop-slot.invariant ∙ unfit_next l f k l.total_root_elements (omega arith) fit

pub returns : goal.returns
returns c =
    let l = c.args.layout.now in
    let f = (bound_of c.args.self.now).elements in
    sym (ap (fault_at 8) (c.loop-slot.invariant ∙ unfit_end l f c.loop-slot.slot l.total_root_elements (omega arith)))
