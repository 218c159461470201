use Rattle.std.proofs.Common.{ap, ◌∙◌}
use Rattle.runs.proofs.Listing.{run_shows, run_made}
use Rattle.runs.proofs.drive.encode.Goals as goal

pub returns-clause-encoded : goal.returns-clause-encoded
returns-clause-encoded g c =
    let d = c.drive.ensures.driven in
    record {
      scene = _;
      driven = d;
      left = c.into_recorder.ensures;
      made = ap (λ m. m.made) c.into_recorder.ensures ∙ run_made d.run _ _ d.runs;
      shows = λ cs e. ap (λ m. m.shown) c.into_recorder.ensures ∙ run_shows d.run _ _ d.runs cs e;
    }
