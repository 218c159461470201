-- Which commands have a record.
use Rattle.std.proofs.Common.{◌<◌, [], length, sym, ap, ◌∙◌, append-nil, arith}
use Rattle.std.proofs.lemmas.List.{take_all}
use Rattle.std.proofs.lemmas.Bool.{and_parts, ltb-true}
use Rattle.command_list.specs.declared.code.Code.{Code}
use Rattle.command_list.specs.declared.code.Code.TheVariants as code
use Rattle.command_list.specs.Numbers.{total}
use Rattle.command_list.specs.Commands.{code_of, byte_of, fields, record_of}
use Rattle.command_list.specs.Decoding.{front}
use Rattle.list_file.specs.Passing.{RecordsKnown}
use Rattle.list_writer.proofs.Whole.{front_record, front_readable, front_back}

byte_small : (k : Code) → byte_of k < 256
byte_small code.BeginEvent = omega arith
byte_small code.EndEvent = omega arith
byte_small code.SetDescriptorHeaps = omega arith
byte_small code.SetGraphicsRootSignature = omega arith
byte_small code.SetComputeRootSignature = omega arith
byte_small code.SetPipelineState = omega arith
byte_small code.IASetPrimitiveTopology = omega arith
byte_small code.IASetVertexBuffers = omega arith
byte_small code.SetGraphicsRoot32BitConstant = omega arith
byte_small code.SetComputeRoot32BitConstant = omega arith
byte_small code.SetGraphicsRootDescriptorTable = omega arith
byte_small code.SetComputeRootDescriptorTable = omega arith
byte_small code.SetGraphicsRootConstantBufferView = omega arith
byte_small code.SetComputeRootConstantBufferView = omega arith
byte_small code.OMSetRenderTargets = omega arith
byte_small code.ClearRenderTargetView = omega arith
byte_small code.RSSetViewports = omega arith
byte_small code.RSSetScissorRects = omega arith
byte_small code.ResourceBarrier = omega arith
byte_small code.DrawInstanced = omega arith
byte_small code.Dispatch = omega arith
byte_small code.ExecuteIndirect = omega arith

pub records_known : RecordsKnown
records_known c = (
  λ r f.
      let p = and_parts _ _ r in
      let short = ltb-true (total (fields c)) 65535 p.1 in
      ap front (sym (append-nil (record_of c))) ∙ front_record c [] p.0 (omega arith, (byte_small (code_of c), f)),
  λ bs h e.
      ((front_readable bs c (length bs) h e).0, sym (front_back bs c (length bs) h e ∙ take_all (length bs) bs (omega arith))),
)
