-- What the bytes of one record say.
use Rattle.std.specs.Prelude.{ℕ, zero, suc, ◌+◌, ◌-◌, ◌*◌, ◌/◌, ◌%◌, Bool, true, false, cond, ◌&&◌, ◌||◌, List, [], ◌∷◌, ◌++◌, length, take, drop, Some, None, Option, ◌==◌, nat_lt, slice_index}
use Rattle.command_list.specs.declared.command.Half.{Half}
use Rattle.command_list.specs.declared.command.Half.TheVariants.{Graphics, Compute}
use Rattle.command_list.specs.declared.command.BarrierType.{BarrierType}
use Rattle.command_list.specs.declared.command.BarrierType.TheVariants.{Transition, Uav}
use Rattle.command_list.specs.declared.command.Barrier.{Barrier}
use Rattle.command_list.specs.declared.code.Code.{Code}
use Rattle.command_list.specs.declared.code.Code.TheVariants as code
use Rattle.command_list.specs.Numbers.{numbers}
use Rattle.command_list.specs.Commands.{Command, byte_of, in_range, sum, entry_widths, BeginEvent, EndEvent, SetDescriptorHeaps, SetRootSignature, SetPipelineState, IASetPrimitiveTopology, IASetVertexBuffers, SetRoot32BitConstant, SetRootDescriptorTable, SetRootConstantBufferView, OMSetRenderTargets, ClearRenderTargetView, RSSetViewports, RSSetScissorRects, ResourceBarrier, DrawInstanced, Dispatch, ExecuteIndirect}

abbrev pub codes : List Code
codes =
    code.BeginEvent ∷ code.EndEvent ∷ code.SetDescriptorHeaps
    ∷ code.SetGraphicsRootSignature ∷ code.SetComputeRootSignature
    ∷ code.SetPipelineState ∷ code.IASetPrimitiveTopology ∷ code.IASetVertexBuffers
    ∷ code.SetGraphicsRoot32BitConstant ∷ code.SetComputeRoot32BitConstant
    ∷ code.SetGraphicsRootDescriptorTable ∷ code.SetComputeRootDescriptorTable
    ∷ code.SetGraphicsRootConstantBufferView ∷ code.SetComputeRootConstantBufferView
    ∷ code.OMSetRenderTargets ∷ code.ClearRenderTargetView ∷ code.RSSetViewports
    ∷ code.RSSetScissorRects ∷ code.ResourceBarrier ∷ code.DrawInstanced ∷ code.Dispatch
    ∷ code.ExecuteIndirect ∷ []

abbrev pub among : List Code → ℕ → Option Code
among [] b = None
among (k ∷ ks) b = cond (b == byte_of k) (Some k) (among ks b)

-- the code that a byte names, if it names one
abbrev pub code_named : ℕ → Option Code
code_named b = among codes b

-- how a code's operands lie: one row of these widths, one or more such rows, or a count in one byte
-- and as many rows
pub data Shape : Type 0 where
  fixed : List ℕ → Shape
  several : List ℕ → Shape
  counted : List ℕ → Shape

abbrev pub shape : Code → Shape
shape code.BeginEvent = several (2 ∷ [])
shape code.EndEvent = fixed []
shape code.SetDescriptorHeaps = fixed (1 ∷ [])
shape code.SetGraphicsRootSignature = fixed (4 ∷ [])
shape code.SetComputeRootSignature = fixed (4 ∷ [])
shape code.SetPipelineState = fixed (4 ∷ [])
shape code.IASetPrimitiveTopology = fixed (4 ∷ [])
shape code.IASetVertexBuffers = fixed (1 ∷ 8 ∷ 4 ∷ 4 ∷ [])
shape code.SetGraphicsRoot32BitConstant = fixed (1 ∷ 1 ∷ 4 ∷ [])
shape code.SetComputeRoot32BitConstant = fixed (1 ∷ 1 ∷ 4 ∷ [])
shape code.SetGraphicsRootDescriptorTable = fixed (1 ∷ 8 ∷ [])
shape code.SetComputeRootDescriptorTable = fixed (1 ∷ 8 ∷ [])
shape code.SetGraphicsRootConstantBufferView = fixed (1 ∷ 8 ∷ [])
shape code.SetComputeRootConstantBufferView = fixed (1 ∷ 8 ∷ [])
shape code.OMSetRenderTargets = counted (8 ∷ [])
shape code.ClearRenderTargetView = fixed (8 ∷ 4 ∷ 4 ∷ 4 ∷ 4 ∷ [])
shape code.RSSetViewports = fixed (4 ∷ 4 ∷ 4 ∷ 4 ∷ 4 ∷ 4 ∷ [])
shape code.RSSetScissorRects = fixed (4 ∷ 4 ∷ 4 ∷ 4 ∷ [])
shape code.ResourceBarrier = several entry_widths
shape code.DrawInstanced = fixed (4 ∷ 4 ∷ 4 ∷ 4 ∷ [])
shape code.Dispatch = fixed (4 ∷ 4 ∷ 4 ∷ [])
shape code.ExecuteIndirect = fixed (1 ∷ 1 ∷ 4 ∷ 4 ∷ 8 ∷ [])

-- operands of len bytes, the first of them b, are as long as their shape says
abbrev pub length_right : Shape → ℕ → ℕ → Bool
length_right (fixed ws) len b = len == sum ws
length_right (several ws) len b = nat_lt 0 len && len % sum ws == 0
length_right (counted ws) len b = len == 1 + sum ws * b

abbrev pub repeated : ℕ → List ℕ → List ℕ
repeated zero ws = []
repeated (suc n) ws = ws ++ repeated n ws

-- the widths of operands of len bytes
abbrev pub widths_of : Shape → ℕ → List ℕ
widths_of (fixed ws) len = ws
widths_of (several ws) len = repeated (len / sum ws) ws
widths_of (counted ws) len = 1 ∷ repeated (len / sum ws) ws

abbrev pub flag_of : ℕ → Option Bool
flag_of n = cond (n == 0) (Some false) (cond (n == 1) (Some true) None)

abbrev pub kind_of : ℕ → Option Half
kind_of n = cond (n == 0) (Some Graphics) (cond (n == 2) (Some Compute) None)

abbrev pub special_of : ℕ → Option ℕ
special_of n = cond (n == 255) None (Some n)

abbrev pub type_of : ℕ → Option BarrierType
type_of n = cond (n == 0) (Some Transition) (cond (n == 2) (Some Uav) None)

abbrev pub then : {A B : Type 0} → Option A → (A → Option B) → Option B
then None f = None
then (Some a) f = f a

-- barriers from their numbers, five each
abbrev pub barriers : List ℕ → Option (List Barrier)
barriers [] = Some []
barriers (t ∷ r ∷ s ∷ b ∷ a ∷ vs) =
    then (type_of t)
    (λ k. then (barriers vs)
    (λ es. Some (record { kind = k; resource = r; subresource = s; before = b; after = a } ∷ es)))
barriers _ = None

-- the command of a code and its operands; none where a flag, kind or type is not known
abbrev pub named : Code → List ℕ → Option Command
named code.BeginEvent v = Some (BeginEvent v)
named code.EndEvent v = Some EndEvent
named code.SetDescriptorHeaps v =
    then (flag_of (slice_index v 0)) (λ on. Some (SetDescriptorHeaps on))
named code.SetGraphicsRootSignature v = Some (SetRootSignature Graphics (slice_index v 0))
named code.SetComputeRootSignature v = Some (SetRootSignature Compute (slice_index v 0))
named code.SetPipelineState v = Some (SetPipelineState (slice_index v 0))
named code.IASetPrimitiveTopology v = Some (IASetPrimitiveTopology (slice_index v 0))
named code.IASetVertexBuffers v =
    Some (IASetVertexBuffers (slice_index v 0) (slice_index v 1)
    (slice_index v 2) (slice_index v 3))
named code.SetGraphicsRoot32BitConstant v =
    Some (SetRoot32BitConstant Graphics (slice_index v 0) (slice_index v 1) (slice_index v 2))
named code.SetComputeRoot32BitConstant v =
    Some (SetRoot32BitConstant Compute (slice_index v 0) (slice_index v 1) (slice_index v 2))
named code.SetGraphicsRootDescriptorTable v =
    Some (SetRootDescriptorTable Graphics (slice_index v 0) (slice_index v 1))
named code.SetComputeRootDescriptorTable v =
    Some (SetRootDescriptorTable Compute (slice_index v 0) (slice_index v 1))
named code.SetGraphicsRootConstantBufferView v =
    Some (SetRootConstantBufferView Graphics (slice_index v 0) (slice_index v 1))
named code.SetComputeRootConstantBufferView v =
    Some (SetRootConstantBufferView Compute (slice_index v 0) (slice_index v 1))
named code.OMSetRenderTargets v = Some (OMSetRenderTargets (drop 1 v))
named code.ClearRenderTargetView v =
    Some (ClearRenderTargetView (slice_index v 0) (slice_index v 1) (slice_index v 2)
    (slice_index v 3) (slice_index v 4))
named code.RSSetViewports v =
    Some (RSSetViewports (slice_index v 0) (slice_index v 1) (slice_index v 2)
    (slice_index v 3) (slice_index v 4) (slice_index v 5))
named code.RSSetScissorRects v =
    Some (RSSetScissorRects (slice_index v 0) (slice_index v 1) (slice_index v 2) (slice_index v 3))
named code.ResourceBarrier v = then (barriers v) (λ es. Some (ResourceBarrier es))
named code.DrawInstanced v =
    Some (DrawInstanced (slice_index v 0) (slice_index v 1) (slice_index v 2) (slice_index v 3))
named code.Dispatch v = Some (Dispatch (slice_index v 0) (slice_index v 1) (slice_index v 2))
named code.ExecuteIndirect v =
    then (kind_of (slice_index v 0))
    (λ h. Some (ExecuteIndirect h (special_of (slice_index v 1)) (slice_index v 2)
    (slice_index v 3) (slice_index v 4)))

-- a command, or the number of the refusal
pub data Decoded : Type 0 where
  takes : Command → Decoded
  wrong : ℕ → Decoded

abbrev pub checked : Option Command → Decoded
checked None = wrong 25
checked (Some c) = cond (in_range c) (takes c) (wrong 25)

-- the operand bytes of a code: first their length, then their values
abbrev pub decode : Code → List ℕ → Decoded
decode k ops =
    cond (length_right (shape k) (length ops) (slice_index ops 0))
    (checked (named k (numbers (widths_of (shape k) (length ops)) 0 ops))) (wrong 24)

abbrev pub decode_named : Option Code → List ℕ → Decoded
decode_named None ops = wrong 23
decode_named (Some k) ops = decode k ops

-- the front of what is left of a file: its end, a command with the bytes that its record takes, or
-- the number of a refusal
pub data Front : Type 0 where
  ended : Front
  first : Command → ℕ → Front
  broken : ℕ → Front

abbrev pub sized : Decoded → ℕ → Front
sized (takes c) n = first c n
sized (wrong r) n = broken r

-- the frame at the front of some bytes: a byte that names a code, the operands behind it, and how
-- many bytes it takes in all; or none at their end; or one that is cut short or of length 0
pub data Framing : Type 0 where
  no_frame : Framing
  frame : ℕ → List ℕ → ℕ → Framing
  cut : Framing

-- a frame is two bytes, which tell the length of what follows them, a code and its operands
abbrev pub framing : List ℕ → Framing
framing [] = no_frame
framing (hi ∷ lo ∷ k ∷ bs) =
    cond (hi * 256 + lo == 0 || nat_lt (length bs) (hi * 256 + lo - 1)) cut
    (frame k (take (hi * 256 + lo - 1) bs) (2 + (hi * 256 + lo)))
framing _ = cut

-- what a frame says by the codes of a list file
abbrev pub read_frame : Framing → Front
read_frame no_frame = ended
read_frame (frame k ops n) = sized (decode_named (code_named k) ops) n
read_frame cut = broken 22

unfoldable pub front : List ℕ → Front
front bs = read_frame (framing bs)
