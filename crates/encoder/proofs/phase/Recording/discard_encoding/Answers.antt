use Rattle.std.proofs.Common.{refl}
use Rattle.encoder.specs.Scenes.{recording}
use Rattle.encoder.proofs.Handling.{does_discard}
use Rattle.encoder.proofs.phase.Recording.discard_encoding.Goals as goal

pub returns : goal.returns
returns g c = does_discard recording _ _ refl
