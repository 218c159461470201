use Rattle.std.proofs.Common.{◌∙◌}
use Rattle.resources.specs.States.{common, buffer_flags}
use Rattle.resources.specs.Usages.{buffer}
use Rattle.resources.proofs.States.{united_fold, stated}
use Rattle.resources.proofs.conv.map_buffer_usage_to_state.Goals as goal

pub returns : goal.returns
returns c =
    let u = c.args.usage.bits in
    let e = rw c.reads_storage.ensures at c.brought.ensures in
    stated (buffer u) _ (e ∙ united_fold u 0 common (buffer_flags u))
