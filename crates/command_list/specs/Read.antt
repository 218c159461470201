-- What the reader's own values stand for.
use Rattle.std.specs.Prelude.{◌≡◌, ℕ, List, Some, None, Ok, Err, Option, Result, IfErr}
use Rattle.command_list.specs.declared.code.Code.{Code}
use Rattle.command_list.specs.declared.fault.Fault.{Fault}
use Rattle.command_list.specs.declared.reader.Frame.{Frame}
use Rattle.command_list.specs.Decoding.{decode, Framing, no_frame, frame, cut}
use Rattle.command_list.specs.Seen.{Record, seen, IsFault}

-- a code's operands were read as they decode; a refusal is at the record's place
abbrev pub Reads : Code → List ℕ → ℕ → Result Record Fault → Type 0
Reads k ops at r = (seen r ≡ decode k ops) × IfErr r (λ f. f.place ≡ at)

-- a frame with its size, or the end
abbrev pub frame_of : Option (Frame × ℕ) → Framing
frame_of None = no_frame
frame_of (Some p) = frame p.0.code p.0.operands.now p.1

-- the frame was taken, or there is none; a cut one is refused with 22 at its place
abbrev pub Framed : Framing → ℕ → Result (Option (Frame × ℕ)) Fault → Type 0
Framed x at (Ok o) = x ≡ frame_of o
Framed x at (Err f) = (x ≡ cut) × IsFault f 22 at
