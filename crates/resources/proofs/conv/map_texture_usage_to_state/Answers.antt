use Rattle.std.proofs.Common.{◌∙◌}
use Rattle.resources.specs.States.{common, texture_flags}
use Rattle.resources.specs.Usages.{texture}
use Rattle.resources.proofs.States.{united_fold, stated}
use Rattle.resources.proofs.conv.map_texture_usage_to_state.Goals as goal

pub returns : goal.returns
returns c =
    let u = c.args.usage.bits in stated (texture u) _ (c.brought.ensures ∙ united_fold u 0 common texture_flags)
