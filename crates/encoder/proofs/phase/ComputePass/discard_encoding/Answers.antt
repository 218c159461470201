use Rattle.std.proofs.Common.{refl}
use Rattle.passes.specs.State.{account}
use Rattle.encoder.specs.Scenes.{in_pass}
use Rattle.encoder.proofs.Handling.{does_discard}
use Rattle.encoder.proofs.phase.ComputePass.discard_encoding.Goals as goal

pub returns : goal.returns
returns g c = does_discard (in_pass (account c.args.self.pass)) _ _ refl
