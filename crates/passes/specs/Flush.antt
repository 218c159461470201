-- What the touched slots are written with.
use Rattle.std.specs.Prelude.{◌≡◌, ℕ, zero, suc, ◌+◌, List, [], ◌∷◌, ◌++◌, Some, None, Option}
use Rattle.command_list.specs.declared.command.Half.{Half}
use Rattle.command_list.specs.declared.command.Half.TheVariants.{Graphics, Compute}
use Rattle.command_list.specs.Commands.{Command, IASetVertexBuffers, SetRootDescriptorTable, SetRootConstantBufferView}
use Rattle.device.specs.Devices.{Slot, table, view, words, VertexView}
use Rattle.device.specs.Writes.{word_commands, Begins, gathered}
use Rattle.layouts.specs.declared.info.ImmediatesInfo.{ImmediatesInfo}
use Rattle.layouts.specs.declared.layout.PipelineLayout.{PipelineLayout}
use Rattle.bindings.specs.declared.constants.SpecialConstants.{SpecialConstants as Constants}
use Rattle.bindings.specs.Constants.{bits32}
use Rattle.passes.specs.declared.element.RootElement.{RootElement}
use Rattle.passes.specs.declared.element.RootElement.TheVariants.{Empty, Immediates, SpecialConstants, DescriptorTable, DynamicUniformBuffer}
use Rattle.passes.specs.Account.{Bound, Views}

-- what a slot is to hold: nothing that is known, a table, a view, or words at its beginning
pub data Value : Type 0 where
  nothing : Value
  table_at : ℕ → Value
  view_at : ℕ → Value
  words_are : List ℕ → Value

-- n of the words from w on
abbrev pub firsts : (ℕ → ℕ) → ℕ → ℕ → List ℕ
firsts f w zero = []
firsts f w (suc n) = f w ∷ firsts f (w + 1) n

abbrev pub size_of : Option ImmediatesInfo → ℕ
size_of None = 0
size_of (Some i) = i.size

-- how many words of immediates the current layout uses
abbrev pub words_used : Option PipelineLayout → ℕ
words_used None = 0
words_used (Some l) = size_of l.immediates_info

-- a draw has its first two words, a dispatch all three; a signed word is written as the same 32 bits
abbrev pub constant_words : Half → Constants → List ℕ
constant_words Graphics s = bits32 s.first_vertex_or_x ∷ s.first_instance_or_y ∷ []
constant_words Compute s = bits32 s.first_vertex_or_x ∷ s.first_instance_or_y ∷ s.unused_or_z ∷ []

abbrev pub element_value : Half → Bound → RootElement → Value
element_value h b Empty = nothing
element_value h b Immediates = words_are (firsts b.immediates 0 (words_used b.layout))
element_value h b (SpecialConstants s) = words_are (constant_words h s)
element_value h b (DescriptorTable a) = table_at a
element_value h b (DynamicUniformBuffer a) = view_at a

abbrev pub value_at : Half → Bound → ℕ → Value
value_at h b k = element_value h b (b.elements k)

abbrev pub slot_commands : Half → ℕ → Value → List Command
slot_commands h k nothing = []
slot_commands h k (table_at a) = SetRootDescriptorTable h k a ∷ []
slot_commands h k (view_at a) = SetRootConstantBufferView h k a ∷ []
slot_commands h k (words_are vs) = word_commands h k 0 vs

abbrev pub view_commands : ℕ → VertexView → List Command
view_commands i x = IASetVertexBuffers i x.address x.size x.stride ∷ []

abbrev pub root_commands : Half → Bound → ℕ → List Command
root_commands h b k = slot_commands h k (value_at h b k)

abbrev pub vertex_commands : Views → ℕ → List Command
vertex_commands v i = view_commands i (v.views i)

-- vertex slots first, then root slots
abbrev pub flushed : Half → Bound → Views → List Command
flushed h b v =
    gathered v.touched (vertex_commands v) 0 16 ++ gathered b.touched (root_commands h b) 0 64

-- a slot of the device holds a value
abbrev pub Holds : Value → Slot → Type 0
Holds nothing s = Unit {0}
Holds (table_at a) s = s ≡ table a
Holds (view_at a) s = s ≡ view a
Holds (words_are vs) s = (f : ℕ → Option ℕ) × (s ≡ words f) × Begins f 0 vs
