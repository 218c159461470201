use Rattle.std.proofs.Common.{◌∷◌, [], ◌+◌, drop, arith, sym, subst, ◌∙◌}
use Rattle.std.specs.Prelude.{slice_index}
use Rattle.encoder.specs.Opening.{clear_to, clear_records}
use Rattle.encoder.proofs.Coming.{Coming, coming_next, coming_fits, put_recorded}
use Rattle.device.proofs.Runs.{recorded_none}
use Rattle.encoder.proofs.Sizes.{clear_here, clear_none}
use Rattle.encoder.proofs.opening.put_clears.Goals.{in-Some+in_ok-put, in_default}
use Rattle.encoder.proofs.opening.put_clears.Goals as goal

pub put-requires-clause-fits : goal.put-requires-clause-fits
put-requires-clause-fits g c =
    let a = c.args in
    let p = c.loop-place.place in
    let is = clear_here a.attachments.now p (omega arith) a.targets c.requires.bound _ (sym c.clear_colour.ensures ∙ c.in-Some.is) in
    coming_fits _ _ _ (clear_to (slice_index a.targets p) c.in-Some.colour ∷ []) (clear_records (drop (p + 1) a.attachments.now)) _ is c.loop-place.invariant c.requires.fits

pub loop-place-preserved : goal.loop-place-preserved
loop-place-preserved g c =
    let a = c.args in
    let m = g.R.Recorder.meaning in
    let p = c.loop-place.place in
    let all = clear_records a.attachments.now in
    let later = clear_records (drop (p + 1) a.attachments.now) in
    elim c.match-clear_colour.branch [
      | in-Some+in_ok-put w ↦
          let is = clear_here a.attachments.now p (omega arith) a.targets c.requires.bound _ (sym c.clear_colour.ensures ∙ w.in-Some.is) in
          subst (λ r. Coming all (m a.recorder.now) later (m r)) (sym w.recorder-is)
          (coming_next _ _ _ (clear_to (slice_index a.targets p) w.in-Some.colour ∷ []) later _ is c.loop-place.invariant _ (put_recorded _ _ _ _ w.put.ensures))
      | in_default w ↦
          let is = clear_none a.attachments.now p (omega arith) (sym c.clear_colour.ensures ∙ w.in_default.is) in
          subst (λ r. Coming all (m a.recorder.now) later (m r)) (sym w.recorder-is)
          (coming_next _ _ _ [] later _ is c.loop-place.invariant _ (recorded_none (m c.loop-place.recorder)))
    ]
