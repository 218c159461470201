use Rattle.std.proofs.Common.{[], ◌∷◌, List, ap, sym, ◌∙◌, refl, subst, arith}
use Rattle.command_list.specs.Commands.{Command}
use Rattle.command_list.specs.Seen.{fixed_command}
use Rattle.device.specs.Meaning.{Recorded, sizes}
use Rattle.device.proofs.Runs.{recorded_then}
use Rattle.passes.specs.Account.{Account, with_roots}
use Rattle.passes.specs.Calls.{marked, prepared_by}
use Rattle.passes.specs.Flush.{flushed}
use Rattle.passes.specs.State.{account}
use Rattle.encoder.proofs.Coming.{put_recorded}
use Rattle.encoder.proofs.Handling.{handled_full, handled_taken, sizes_last}
use Rattle.encoder.proofs.draw.record_draw.Goals as goal
use Rattle.command_list.specs.Refusals.{fault_of}

-- a pass's flush
abbrev flush_of : Account → List Command
flush_of a = flushed a.half a.roots a.vertices

pub returns-then-space-pass_size : goal.returns-then-space-pass_size
returns-then-space-pass_size g c =
    let clear = sym c.check_draw.ensures ∙ ap fault_of c.in_ok-check_draw.was in
    let flush = ap sizes (ap flush_of c.prepare-replaced.ensures.set) in
    let all = sizes_last (flush_of (with_roots (prepared_by c.args.own (account c.args.pass.now).roots) (account c.args.pass.now))) (fixed_command c.args.command) in
    handled_full _ _ _ _ _ _ _ _ refl clear (omega (arith, c.pass_size.ensures.value, flush, all, c.requires.sized)) (c.restore.ensures ∙ c.prepare-replaced.ensures.was) refl

pub returns : goal.returns
returns g c =
    let clear = sym c.check_draw.ensures ∙ ap fault_of c.in_ok-check_draw.was in
    let flush = ap flush_of c.prepare-replaced.ensures.set in
    let fl = flush_of (with_roots (prepared_by c.args.own (account c.args.pass.now).roots) (account c.args.pass.now)) in
    let cmd = fixed_command c.args.command in
    let all = sizes_last fl cmd in
    handled_taken _ _ _ _ _ _ _ clear (omega (arith, c.pass_size.ensures.value, ap sizes flush, all, c.requires.sized))
    (c.mark.ensures ∙ ap (marked c.args.own) c.prepare-replaced.ensures.set)
    (recorded_then _ _ _ fl (cmd ∷ []) (subst (λ cs. Recorded (g.R.Recorder.meaning c.args.recorder.now) cs (g.R.Recorder.meaning c.flush_pass.new.recorder)) flush (put_recorded _ _ _ _ c.flush_pass.ensures)) (put_recorded _ _ _ _ c.put.ensures))
