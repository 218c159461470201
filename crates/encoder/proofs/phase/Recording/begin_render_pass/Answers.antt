use Rattle.std.proofs.Common.{option_map, refl, ap, sym, ◌∙◌}
use Rattle.command_list.specs.declared.command.Half.TheVariants.{Graphics}
use Rattle.passes.specs.Account.{opened}
use Rattle.encoder.specs.Opening.{render_pass}
use Rattle.encoder.specs.Scenes.{recording, in_pass, opening}
use Rattle.encoder.proofs.Moving.{moves, stays, labelled_is}
use Rattle.encoder.proofs.phase.Recording.begin_render_pass.Goals as goal

pub returns-in-Ok : goal.returns-in-Ok
returns-in-Ok g c =
    let bytes = option_map (λ b. b.now) c.args.label in
    moves recording c.args.self.own _ _ (opening (render_pass bytes c.args.width c.args.height c.args.attachments.now)) refl refl _ c.open_render.result c.in-Ok.field-0
    (sym (ap in_pass (c.new.ensures ∙ ap (opened Graphics) (c.is_some.ensures ∙ labelled_is (λ b. b.now) c.args.label)))) c.open_render.ensures c.in-Ok.is

pub returns-in-Err : goal.returns-in-Err
returns-in-Err g c =
    let bytes = option_map (λ b. b.now) c.args.label in
    stays recording c.args.self.own _ _ (opening (render_pass bytes c.args.width c.args.height c.args.attachments.now)) refl refl c.open_render.result c.in-Err.fault c.open_render.ensures c.in-Err.is
