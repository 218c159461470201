-- What the program's own values stand for.
use Rattle.std.specs.Prelude.{◌≡◌, ℕ, ◌+◌, ◌/◌, List, [], ◌∷◌, length, drop, Some, None, Ok, Err, Option, Result, slice_index}
use Rattle.std.specs.Option.{unwrap_or}
use Rattle.std.specs.Borrow.{Bor}
use Rattle.command_list.specs.declared.fault.Fault.{Fault}
use Rattle.command_list.specs.declared.fault.Number.{Number}
use Rattle.command_list.specs.declared.fault.Number.TheVariants as number
use Rattle.command_list.specs.declared.command.Barrier.{Barrier}
use Rattle.command_list.specs.declared.command.Fixed.{Fixed}
use Rattle.command_list.specs.declared.command.Fixed.TheVariants as fixed
use Rattle.command_list.specs.declared.command.Call.{Call}
use Rattle.command_list.specs.declared.command.Call.TheVariants as call
use Rattle.command_list.specs.declared.record.Rows.{Rows}
use Rattle.command_list.specs.declared.code.Code.{Code}
use Rattle.command_list.specs.declared.command.BarrierType.{BarrierType}
use Rattle.command_list.specs.Numbers.{number_at, numbers}
use Rattle.command_list.specs.Commands.{Command, entry_widths, entry_width, BeginEvent, EndEvent, SetDescriptorHeaps, SetRootSignature, SetPipelineState, IASetPrimitiveTopology, IASetVertexBuffers, SetRoot32BitConstant, SetRootDescriptorTable, SetRootConstantBufferView, OMSetRenderTargets, ClearRenderTargetView, RSSetViewports, RSSetScissorRects, ResourceBarrier, DrawInstanced, Dispatch, ExecuteIndirect}
use Rattle.command_list.specs.Decoding.{code_named, repeated, type_of, then, barriers, Decoded, takes, wrong, Front, ended, first, broken, front}

-- the number of each refusal
abbrev pub number_of : Number → ℕ
number_of number.Range = 1
number_of number.Text = 2
number_of number.Absent = 3
number_of number.Count = 4
number_of number.Extent = 5
number_of number.Layout = 6
number_of number.Pipeline = 7
number_of number.Unfit = 8
number_of number.Scratch = 9
number_of number.Full = 10
number_of number.Slots = 11
number_of number.Owners = 12
number_of number.Version = 21
number_of number.Cut = 22
number_of number.Unknown = 23
number_of number.Length = 24
number_of number.Operand = 25

abbrev pub fixed_command : Fixed → Command
fixed_command fixed.EndEvent = EndEvent
fixed_command (fixed.SetDescriptorHeaps on) = SetDescriptorHeaps on
fixed_command (fixed.SetRootSignature h s) = SetRootSignature h s
fixed_command (fixed.SetPipelineState p) = SetPipelineState p
fixed_command (fixed.IASetPrimitiveTopology t) = IASetPrimitiveTopology t
fixed_command (fixed.IASetVertexBuffers i a s t) = IASetVertexBuffers i a s t
fixed_command (fixed.SetRoot32BitConstant h i w v) = SetRoot32BitConstant h i w v
fixed_command (fixed.SetRootDescriptorTable h i a) = SetRootDescriptorTable h i a
fixed_command (fixed.SetRootConstantBufferView h i a) = SetRootConstantBufferView h i a
fixed_command (fixed.ClearRenderTargetView t cs) =
    ClearRenderTargetView t (slice_index cs 0) (slice_index cs 1) (slice_index cs 2)
    (slice_index cs 3)
fixed_command (fixed.RSSetViewports vs) =
    RSSetViewports (slice_index vs 0) (slice_index vs 1) (slice_index vs 2) (slice_index vs 3)
    (slice_index vs 4) (slice_index vs 5)
fixed_command (fixed.RSSetScissorRects l t r b) = RSSetScissorRects l t r b
fixed_command (fixed.DrawInstanced a b c d) = DrawInstanced a b c d
fixed_command (fixed.Dispatch x y z) = Dispatch x y z
fixed_command (fixed.ExecuteIndirect h s n b o) = ExecuteIndirect h s n b o

-- the command of a call, where it is told what its lists hold
abbrev pub call_command : {U H E : Type 0} → (U → List ℕ) → (H → List ℕ) → (E → List Barrier)
    → Call U H E → Command
call_command units handles entries (call.BeginEvent us) = BeginEvent (units us)
call_command units handles entries (call.OMSetRenderTargets hs) = OMSetRenderTargets (handles hs)
call_command units handles entries (call.ResourceBarrier es) = ResourceBarrier (entries es)
call_command units handles entries (call.Fixed f) = fixed_command f

-- a command that is given to be written: its lists are slices
abbrev pub Given : Type 0
Given = Call (Bor (List ℕ)) (Bor (List ℕ)) (Bor (List Barrier))

abbrev pub given_command : Given → Command
given_command = call_command (λ us. us.now) (λ hs. hs.now) (λ es. es.now)

-- the numbers of one width that bytes hold
abbrev pub every : ℕ → List ℕ → List ℕ
every w bs = numbers (repeated (length bs / w) (w ∷ [])) 0 bs

-- the numbers of barrier entries
abbrev pub entry_numbers : List ℕ → List ℕ
entry_numbers bs = numbers (repeated (length bs / entry_width) entry_widths) 0 bs

-- an entry that begins at a place, but for its type
abbrev pub entry_of : ℕ → List ℕ → BarrierType → Option Barrier
entry_of at bs k =
    Some (record {
      kind = k;
      resource = number_at 4 (at + 1) bs;
      subresource = number_at 4 (at + 5) bs;
      before = number_at 4 (at + 9) bs;
      after = number_at 4 (at + 13) bs;
    })

-- the barrier whose entry begins at a place, if its type is known
abbrev pub entry_at : ℕ → List ℕ → Option Barrier
entry_at at bs = then (type_of (number_at 1 at bs)) (entry_of at bs)

-- the barriers that bytes hold, none if one has no type
abbrev pub entries_of : List ℕ → List Barrier
entries_of bs = unwrap_or (barriers (entry_numbers bs)) []

-- a command that was read: its lists are rows of the file's bytes
abbrev pub Record : Type 0
Record = Call (Rows ℕ) (Rows ℕ) (Rows Barrier)

abbrev pub command_of : Record → Command
command_of =
    call_command (λ us. every 2 us.bytes.now) (λ hs. every 8 hs.bytes.now)
    (λ es. entries_of es.bytes.now)

-- the code that a byte names, or a refusal
abbrev pub Names : ℕ → Result Code Number → Type 0
Names b (Ok k) = code_named b ≡ Some k
Names b (Err e) = (code_named b ≡ None) × (e ≡ number.Unknown)

-- the type that a byte names, or a refusal
abbrev pub Types : ℕ → Result BarrierType Number → Type 0
Types b (Ok k) = type_of b ≡ Some k
Types b (Err e) = (type_of b ≡ None) × (e ≡ number.Operand)

-- what a record was read as, or the number of its refusal
abbrev pub seen : Result Record Fault → Decoded
seen (Ok r) = takes (command_of r)
seen (Err f) = wrong (number_of f.number)

-- a record with its size, or the end
abbrev pub front_of : Option (Record × ℕ) → Front
front_of None = ended
front_of (Some p) = first (command_of p.0) p.1

abbrev pub seen_front : Result (Option (Record × ℕ)) Fault → Front
seen_front (Ok o) = front_of o
seen_front (Err f) = broken (number_of f.number)

-- what one step of the reader comes to: the end, a command, or a refusal's number and place; and
-- the place that it leaves the reader at
pub data Step : Type 0 where
  finished : ℕ → Step
  got : Command → ℕ → Step
  stopped : ℕ → ℕ → ℕ → Step

abbrev pub seen_record : Option Record → ℕ → Step
seen_record None at = finished at
seen_record (Some r) at = got (command_of r) at

abbrev pub seen_step : Result (Option Record) Fault → ℕ → Step
seen_step (Ok o) at = seen_record o at
seen_step (Err f) at = stopped (number_of f.number) f.place at

-- what a step at a place of a file should come to
abbrev pub step_of : Front → ℕ → Step
step_of ended at = finished at
step_of (first c n) at = got c (at + n)
step_of (broken r) at = stopped r at at

unfoldable pub step_at : List ℕ → ℕ → Step
step_at bs at = step_of (front (drop at bs)) at

-- a fault of this number and place
abbrev pub IsFault : Fault → ℕ → ℕ → Type 0
IsFault f n p = (number_of f.number ≡ n) × (f.place ≡ p)
