use Rattle.std.proofs.Common.{refl, ap}
use Rattle.command_list.specs.declared.command.Half.TheVariants.{Graphics}
use Rattle.passes.specs.State.{account}
use Rattle.encoder.specs.Scenes.{in_pass, recording, ending, same_half}
use Rattle.encoder.proofs.Handling.{renders}
use Rattle.encoder.proofs.Moving.{moves, stays}
use Rattle.encoder.proofs.phase.RenderPass.end_render_pass.Goals as goal

pub returns-in-Ok : goal.returns-in-Ok
returns-in-Ok g c =
    let a = c.args.self in
    moves (in_pass (account a.pass)) a.own _ _ (ending Graphics) (ap (same_half Graphics) (renders _ a.renders)) refl recording c.record_ending.result c.in-Ok.field-0 refl c.record_ending.ensures c.in-Ok.is

pub returns-in-Err : goal.returns-in-Err
returns-in-Err g c =
    let a = c.args.self in
    stays (in_pass (account a.pass)) a.own _ _ (ending Graphics) (ap (same_half Graphics) (renders _ a.renders)) refl c.record_ending.result c.in-Err.fault c.record_ending.ensures c.in-Err.is
