use Rattle.std.proofs.Common.{refl, ap}
use Rattle.command_list.specs.declared.command.Half.TheVariants.{Compute}
use Rattle.passes.specs.State.{account}
use Rattle.encoder.specs.Scenes.{in_pass, recording, ending, same_half}
use Rattle.encoder.proofs.Handling.{computes}
use Rattle.encoder.proofs.Moving.{moves, stays}
use Rattle.encoder.proofs.phase.ComputePass.end_compute_pass.Goals as goal

pub returns-in-Ok : goal.returns-in-Ok
returns-in-Ok g c =
    let a = c.args.self in
    moves (in_pass (account a.pass)) a.own _ _ (ending Compute) (ap (same_half Compute) (computes _ a.computes)) refl recording c.record_ending.result c.in-Ok.field-0 refl c.record_ending.ensures c.in-Ok.is

pub returns-in-Err : goal.returns-in-Err
returns-in-Err g c =
    let a = c.args.self in
    stays (in_pass (account a.pass)) a.own _ _ (ending Compute) (ap (same_half Compute) (computes _ a.computes)) refl c.record_ending.result c.in-Err.fault c.record_ending.ensures c.in-Err.is
