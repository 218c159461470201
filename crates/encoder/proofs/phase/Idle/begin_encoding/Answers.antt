use Rattle.encoder.proofs.Handling.{does_begin}
use Rattle.encoder.proofs.phase.Idle.begin_encoding.Goals as goal

pub returns : goal.returns
returns g c = does_begin _ _ _ c.start_anew.ensures
