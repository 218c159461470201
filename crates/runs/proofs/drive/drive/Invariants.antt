use Rattle.std.proofs.Common.{◌≡◌, length}
use Rattle.resources.specs.Batches.{Kept}
use Rattle.encoder.specs.Phases.{fresh}
use Rattle.runs.specs.Offering.{phase_scene}
use Rattle.runs.proofs.Driving.{Driving}
use Rattle.runs.proofs.drive.drive.Given as goal

-- the calls before this one were made, and the host's part of the scratch stands
abbrev pub invariant-loop-i : goal.invariant-loop-i
invariant-loop-i g l =
    let m = g.R.Recorder.meaning in
    (l.scratch.entries.ghost_name ≡ l.fn.scratch.entries.ghost_name)
    × Kept l.fn.scratch.mark.fill l.scratch.mark.fill l.fn.scratch.entries.now l.scratch.entries.now
    × Driving (fresh l.fn.null_target (m l.fn.recorder)) (length l.fn.scratch.entries.now) l.fn.scratch.mark.fill l.fn.calls l.fn.answers l.answers l.i (phase_scene m l.phase)
