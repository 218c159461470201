use Rattle.std.proofs.Common.{refl}
use Rattle.passes.specs.Calls.{set_immediates}
use Rattle.encoder.proofs.Handling.{does_set}
use Rattle.encoder.proofs.phase.ComputePass.set_immediates.Goals as goal

pub returns : goal.returns
returns g c =
    let a = c.args in
    does_set (set_immediates a.layout.now a.offset_bytes a.words.now) _ _ _ _ _ refl refl c.set_immediates.ensures
