use Rattle.encoder.proofs.Handling.{does_end}
use Rattle.encoder.proofs.phase.Recording.end_encoding.Goals as goal

pub returns : goal.returns
returns g c = does_end _ _
