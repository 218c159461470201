use Rattle.std.proofs.Common.{option_map, refl, ap, sym, ◌∙◌}
use Rattle.command_list.specs.declared.command.Half.TheVariants.{Compute}
use Rattle.passes.specs.Account.{opened}
use Rattle.encoder.specs.Opening.{compute_pass}
use Rattle.encoder.specs.Scenes.{recording, in_pass, opening}
use Rattle.encoder.proofs.Moving.{moves, stays, labelled_is}
use Rattle.encoder.proofs.phase.Recording.begin_compute_pass.Goals as goal

pub returns-in-Ok : goal.returns-in-Ok
returns-in-Ok g c =
    let bytes = option_map (λ b. b.now) c.args.label in
    moves recording c.args.self.own _ _ (opening (compute_pass bytes)) refl refl _ c.open_compute.result c.in-Ok.field-0
    (sym (ap in_pass (c.new.ensures ∙ ap (opened Compute) (c.is_some.ensures ∙ labelled_is (λ b. b.now) c.args.label)))) (c.open_compute.ensures c.args.self.own.null_target) c.in-Ok.is

pub returns-in-Err : goal.returns-in-Err
returns-in-Err g c =
    let bytes = option_map (λ b. b.now) c.args.label in
    stays recording c.args.self.own _ _ (opening (compute_pass bytes)) refl refl c.open_compute.result c.in-Err.fault (c.open_compute.ensures c.args.self.own.null_target) c.in-Err.is
