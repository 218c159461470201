use Rattle.std.proofs.Common.{◌≡◌, ℕ, ◌∷◌, List, Result, sym, refl, ap, subst}
use Rattle.command_list.specs.declared.fault.Fault.{Fault}
use Rattle.command_list.specs.Numbers.{field}
use Rattle.command_list.specs.Commands.{Command}
use Rattle.command_list.specs.Seen.{call_command}
use Rattle.list_writer.specs.Writing.{Written}
use Rattle.list_writer.proofs.Readable.{appended_as}
use Rattle.list_writer.proofs.writer.CallRecordable.append_to.Goals as goal

-- what was written in an arm, where the command is known
in_arm : (c d : Command) (xs ys : List ℕ) (n : ℕ) (r : Result ℕ Fault) → c ≡ d → Written d xs n r ys → Written c xs n r ys
in_arm c d xs ys n r e w = subst (λ k. Written k xs n r ys) (sym e) w

pub returns-in_ok-size-in-BeginEvent : goal.returns-in_ok-size-in-BeginEvent
returns-in_ok-size-in-BeginEvent g c =
    let a = c.in-BeginEvent in
    in_arm _ _ _ _ _ _ (ap (call_command g.U.Listing.items g.H.Listing.items g.E.Listing.items) a.is)
    (appended_as _ _ _ _ _ _ _ c.in_ok-size-in-BeginEvent.ensures.0 refl (sym (g.met.U.Listing.joined a.units)) c.append_row.ensures)

pub returns-in_ok-size-in-OMSetRenderTargets : goal.returns-in_ok-size-in-OMSetRenderTargets
returns-in_ok-size-in-OMSetRenderTargets g c =
    let a = c.in-OMSetRenderTargets in
    in_arm _ _ _ _ _ _ (ap (call_command g.U.Listing.items g.H.Listing.items g.E.Listing.items) a.is)
    (appended_as _ _ _ _ _ _ _ c.in_ok-size-in-OMSetRenderTargets.ensures.0 refl (λ i. field 1 (sym c.count.ensures i) ∷ sym (g.met.H.Listing.joined a.handles) i) c.append_row-in-OMSetRenderTargets.ensures)

pub returns-in_ok-size-in-ResourceBarrier : goal.returns-in_ok-size-in-ResourceBarrier
returns-in_ok-size-in-ResourceBarrier g c =
    let a = c.in-ResourceBarrier in
    in_arm _ _ _ _ _ _ (ap (call_command g.U.Listing.items g.H.Listing.items g.E.Listing.items) a.is)
    (appended_as _ _ _ _ _ _ _ c.in_ok-size-in-ResourceBarrier.ensures.0 refl (sym (g.met.E.Listing.joined a.entries)) c.append_row-in-ResourceBarrier.ensures)

pub returns-in-Fixed : goal.returns-in-Fixed
returns-in-Fixed g c =
    in_arm _ _ _ _ _ _ (ap (call_command g.U.Listing.items g.H.Listing.items g.E.Listing.items) c.in-Fixed.is) c.append_to.ensures
