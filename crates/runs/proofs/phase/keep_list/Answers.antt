use Rattle.std.proofs.Common.{length, refl}
use Rattle.encoder.proofs.Answered.{does_nothing}
use Rattle.runs.specs.Offering.{call_of}
use Rattle.runs.proofs.Away.{away_list, apart_from}
use Rattle.runs.proofs.phase.keep_list.Goals as goal

pub returns-in_default : goal.returns-in_default
returns-in_default g c =
    let a = c.args in
    let len = length a.scratch.now.entries.now in
    let fill = a.scratch.now.mark.fill in
    let k = c.requires in
    record {
      lent = refl;
      kept = record { same = refl; long = refl; below = refl };
      does = does_nothing _ (call_of len fill a.call.now) _ (away_list len fill a.call.now (apart_from k refl) (apart_from k refl) c.in_default.not-TransitionBuffers c.in_default.not-TransitionTextures (λ o w h os. apart_from k refl) (λ o. apart_from k refl)) refl;
    }
