-- The commands of a list, and the operands that each is written with.
use Rattle.std.specs.Prelude.{ℕ, ◌+◌, ◌/◌, Bool, true, false, ◌&&◌, List, [], ◌∷◌, length, Some, None, Option, ◌==◌, nat_le, nat_lt}
use Rattle.std.specs.List.{flat_map}
use Rattle.command_list.specs.declared.command.Half.{Half}
use Rattle.command_list.specs.declared.command.Half.TheVariants.{Graphics, Compute}
use Rattle.command_list.specs.declared.command.BarrierType.{BarrierType}
use Rattle.command_list.specs.declared.command.BarrierType.TheVariants.{Transition, Uav}
use Rattle.command_list.specs.declared.command.Barrier.{Barrier}
use Rattle.command_list.specs.declared.code.Code.{Code}
use Rattle.command_list.specs.declared.code.Code.TheVariants as code
use Rattle.command_list.specs.Numbers.{Field, field, bytes, total}

-- one Direct3D 12 call as data
pub data Command : Type 0 where
  -- UTF-16 units, the last of them 0
  BeginEvent : List ℕ → Command
  EndEvent : Command
  SetDescriptorHeaps : Bool → Command
  SetRootSignature : Half → ℕ → Command
  SetPipelineState : ℕ → Command
  IASetPrimitiveTopology : ℕ → Command
  -- slot, address, size, stride
  IASetVertexBuffers : ℕ → ℕ → ℕ → ℕ → Command
  -- slot, word, value
  SetRoot32BitConstant : Half → ℕ → ℕ → ℕ → Command
  -- slot, address
  SetRootDescriptorTable : Half → ℕ → ℕ → Command
  SetRootConstantBufferView : Half → ℕ → ℕ → Command
  -- handles
  OMSetRenderTargets : List ℕ → Command
  -- handle, four float patterns
  ClearRenderTargetView : ℕ → ℕ → ℕ → ℕ → ℕ → Command
  -- six float patterns: x, y, width, height, least and greatest depth
  RSSetViewports : ℕ → ℕ → ℕ → ℕ → ℕ → ℕ → Command
  -- left, top, right, bottom
  RSSetScissorRects : ℕ → ℕ → ℕ → ℕ → Command
  ResourceBarrier : List Barrier → Command
  -- how many vertices and instances, and the first of each
  DrawInstanced : ℕ → ℕ → ℕ → ℕ → Command
  Dispatch : ℕ → ℕ → ℕ → Command
  -- a draw (graphics) or a dispatch (compute), the special slot of its command signature, count,
  -- buffer, offset
  ExecuteIndirect : Half → Option ℕ → ℕ → ℕ → ℕ → Command

-- how many bytes numbers of these widths take
abbrev pub sum : List ℕ → ℕ
sum [] = 0
sum (w ∷ ws) = w + sum ws

-- the code of a call that each half has for itself
abbrev pub of_half : {A : Type 0} → Half → A → A → A
of_half Graphics x y = x
of_half Compute x y = y

abbrev pub code_of : Command → Code
code_of (BeginEvent us) = code.BeginEvent
code_of EndEvent = code.EndEvent
code_of (SetDescriptorHeaps on) = code.SetDescriptorHeaps
code_of (SetRootSignature h s) =
    of_half h code.SetGraphicsRootSignature code.SetComputeRootSignature
code_of (SetPipelineState p) = code.SetPipelineState
code_of (IASetPrimitiveTopology t) = code.IASetPrimitiveTopology
code_of (IASetVertexBuffers i a s t) = code.IASetVertexBuffers
code_of (SetRoot32BitConstant h i w v) =
    of_half h code.SetGraphicsRoot32BitConstant code.SetComputeRoot32BitConstant
code_of (SetRootDescriptorTable h i a) =
    of_half h code.SetGraphicsRootDescriptorTable code.SetComputeRootDescriptorTable
code_of (SetRootConstantBufferView h i a) =
    of_half h code.SetGraphicsRootConstantBufferView code.SetComputeRootConstantBufferView
code_of (OMSetRenderTargets hs) = code.OMSetRenderTargets
code_of (ClearRenderTargetView t a b c d) = code.ClearRenderTargetView
code_of (RSSetViewports x y w h m n) = code.RSSetViewports
code_of (RSSetScissorRects l t r b) = code.RSSetScissorRects
code_of (ResourceBarrier es) = code.ResourceBarrier
code_of (DrawInstanced a b c d) = code.DrawInstanced
code_of (Dispatch x y z) = code.Dispatch
code_of (ExecuteIndirect h s n b o) = code.ExecuteIndirect

-- the byte of each code
abbrev pub byte_of : Code → ℕ
byte_of code.BeginEvent = 1
byte_of code.EndEvent = 2
byte_of code.SetDescriptorHeaps = 3
byte_of code.SetGraphicsRootSignature = 4
byte_of code.SetComputeRootSignature = 5
byte_of code.SetPipelineState = 6
byte_of code.IASetPrimitiveTopology = 7
byte_of code.IASetVertexBuffers = 8
byte_of code.SetGraphicsRoot32BitConstant = 10
byte_of code.SetComputeRoot32BitConstant = 11
byte_of code.SetGraphicsRootDescriptorTable = 12
byte_of code.SetComputeRootDescriptorTable = 13
byte_of code.SetGraphicsRootConstantBufferView = 14
byte_of code.SetComputeRootConstantBufferView = 15
byte_of code.OMSetRenderTargets = 16
byte_of code.ClearRenderTargetView = 17
byte_of code.RSSetViewports = 20
byte_of code.RSSetScissorRects = 21
byte_of code.ResourceBarrier = 22
byte_of code.DrawInstanced = 28
byte_of code.Dispatch = 30
byte_of code.ExecuteIndirect = 31

-- heaps on or off
abbrev pub flag_byte : Bool → ℕ
flag_byte false = 0
flag_byte true = 1

-- an indirect draw or dispatch
abbrev pub kind_byte : Half → ℕ
kind_byte Graphics = 0
kind_byte Compute = 2

-- 255 stands for the shared command signature, which has no special slot
abbrev pub special_byte : Option ℕ → ℕ
special_byte None = 255
special_byte (Some i) = i

-- Direct3D's number of a barrier's type
abbrev pub type_byte : BarrierType → ℕ
type_byte Transition = 0
type_byte Uav = 2

abbrev pub unit : ℕ → List Field
unit u = field 2 u ∷ []

abbrev pub handle : ℕ → List Field
handle h = field 8 h ∷ []

-- the widths of a barrier's entry, and how many bytes that is
abbrev pub entry_widths : List ℕ
entry_widths = 1 ∷ 4 ∷ 4 ∷ 4 ∷ 4 ∷ []

abbrev pub entry_width : ℕ
entry_width = sum entry_widths

-- the most entries that a record's length can tell
abbrev pub most_entries : ℕ
most_entries = 65534 / entry_width

abbrev pub entry : Barrier → List Field
entry b =
    field 1 (type_byte b.kind) ∷ field 4 b.resource ∷ field 4 b.subresource ∷ field 4 b.before
    ∷ field 4 b.after ∷ []

-- the operands in their order, with their widths
abbrev pub fields : Command → List Field
fields (BeginEvent us) = flat_map unit us
fields EndEvent = []
fields (SetDescriptorHeaps on) = field 1 (flag_byte on) ∷ []
fields (SetRootSignature h s) = field 4 s ∷ []
fields (SetPipelineState p) = field 4 p ∷ []
fields (IASetPrimitiveTopology t) = field 4 t ∷ []
fields (IASetVertexBuffers i a s t) = field 1 i ∷ field 8 a ∷ field 4 s ∷ field 4 t ∷ []
fields (SetRoot32BitConstant h i w v) = field 1 i ∷ field 1 w ∷ field 4 v ∷ []
fields (SetRootDescriptorTable h i a) = field 1 i ∷ field 8 a ∷ []
fields (SetRootConstantBufferView h i a) = field 1 i ∷ field 8 a ∷ []
fields (OMSetRenderTargets hs) = field 1 (length hs) ∷ flat_map handle hs
fields (ClearRenderTargetView t a b c d) =
    field 8 t ∷ field 4 a ∷ field 4 b ∷ field 4 c ∷ field 4 d ∷ []
fields (RSSetViewports x y w h m n) =
    field 4 x ∷ field 4 y ∷ field 4 w ∷ field 4 h ∷ field 4 m ∷ field 4 n ∷ []
fields (RSSetScissorRects l t r b) = field 4 l ∷ field 4 t ∷ field 4 r ∷ field 4 b ∷ []
fields (ResourceBarrier es) = flat_map entry es
fields (DrawInstanced a b c d) = field 4 a ∷ field 4 b ∷ field 4 c ∷ field 4 d ∷ []
fields (Dispatch x y z) = field 4 x ∷ field 4 y ∷ field 4 z ∷ []
fields (ExecuteIndirect h s n b o) =
    field 1 (kind_byte h) ∷ field 1 (special_byte s) ∷ field 4 n ∷ field 4 b ∷ field 8 o ∷ []

-- the last of some units is 0
abbrev pub ends_with_zero : List ℕ → Bool
ends_with_zero [] = false
ends_with_zero (u ∷ []) = u == 0
ends_with_zero (u ∷ v ∷ us) = ends_with_zero (v ∷ us)

abbrev pub is_slot : ℕ → Bool
is_slot i = nat_lt i 64

abbrev pub is_special : Option ℕ → Bool
is_special None = true
is_special (Some i) = is_slot i

-- slots, words and counts are in range, a label is ended by 0, and there is a barrier
abbrev pub in_range : Command → Bool
in_range (BeginEvent us) = ends_with_zero us
in_range (IASetVertexBuffers i a s t) = nat_lt i 16
in_range (SetRoot32BitConstant h i w v) = is_slot i && is_slot w
in_range (SetRootDescriptorTable h i a) = is_slot i
in_range (SetRootConstantBufferView h i a) = is_slot i
in_range (OMSetRenderTargets hs) = nat_le (length hs) 8
in_range (ResourceBarrier es) = nat_lt 0 (length es)
in_range (ExecuteIndirect h s n b o) = is_special s
in_range _ = true

-- a record: the length of what follows in two bytes, the code in one, the operands
abbrev pub framed : Code → List Field → List Field
framed k fs = field 2 (1 + total fs) ∷ field 1 (byte_of k) ∷ fs

-- a command's record as bytes
abbrev pub record_of : Command → List ℕ
record_of c = bytes (framed (code_of c) (fields c))

-- how many bytes that is
abbrev pub size : Command → ℕ
size c = 3 + total (fields c)

-- the reader takes a command's record: it is in range, and two bytes can tell its length
abbrev pub readable : Command → Bool
readable c = in_range c && nat_lt (total (fields c)) 65535
