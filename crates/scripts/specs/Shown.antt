-- What is printed of a command, and of the state of a pass.
use Rattle.std.specs.Prelude.{ℕ, Bool, false, ◌&&◌, List, [], ◌++◌, map, take, flat_map, codes, decimal, Some, None, Option, ◌==◌, if◌then◌else◌}
use Rattle.std.specs.List.{enumerate_from, join_with_byte}
use Rattle.std.specs.Fmt.{digits, signed_decimal}
use Rattle.command_list.specs.Numbers.{Field}
use Rattle.command_list.specs.Commands.{Command, code_of, byte_of, fields}
use Rattle.layouts.specs.declared.info.ImmediatesInfo.{ImmediatesInfo}
use Rattle.layouts.specs.declared.layout.PipelineLayout.{PipelineLayout}
use Rattle.passes.specs.declared.element.RootElement.{RootElement}
use Rattle.passes.specs.declared.element.RootElement.TheVariants.{Empty, Immediates, SpecialConstants, DescriptorTable, DynamicUniformBuffer}
use Rattle.passes.specs.declared.roots.RootState.{RootState}
use Rattle.passes.specs.declared.vertices.VertexBufferView.{VertexBufferView}
use Rattle.passes.specs.declared.state.PassState.{PassState}

-- a number in decimal, behind a blank
abbrev pub number : ℕ → List ℕ
number n = codes " " ++ decimal n

abbrev pub operands : List Field → List ℕ
operands fs = flat_map (λ f. number f.value) fs

-- a command: its code and its operands in their order, all decimal
abbrev pub shown_command : Command → List ℕ
shown_command c = decimal (byte_of (code_of c)) ++ operands (fields c)

-- a mask in hex
abbrev pub mask : ℕ → List ℕ
mask n = codes "0x" ++ digits 16 false n

-- the current layout's signature, 0 if there is none
abbrev pub signature_of : Option PipelineLayout → ℕ
signature_of None = 0
signature_of (Some l) = l.signature

-- how many words the immediates have at a slot
abbrev pub size_at : ℕ → Option ImmediatesInfo → ℕ
size_at slot None = 0
size_at slot (Some i) = if i.root_index == slot then i.size else 0

-- the same of the current layout, none if there is none
abbrev pub count_at : ℕ → Option PipelineLayout → ℕ
count_at slot None = 0
count_at slot (Some l) = size_at slot l.immediates_info

-- the words of immediates that the current layout has at a slot
abbrev pub words_at : RootState → ℕ → List ℕ
words_at r slot = take (count_at slot r.layout) r.immediates

-- words in decimal, with commas between them
abbrev pub word_list : List ℕ → List ℕ
word_list ws = join_with_byte 44 (map decimal ws)

-- what a root slot has
abbrev pub shown_element : RootState → ℕ → RootElement → List ℕ
shown_element r slot Empty = []
shown_element r slot Immediates =
    number slot ++ codes ":immediates:" ++ word_list (words_at r slot)
shown_element r slot (SpecialConstants c) =
    number slot ++ codes ":special:" ++ signed_decimal c.first_vertex_or_x ++ codes ","
    ++ decimal c.first_instance_or_y ++ codes "," ++ decimal c.unused_or_z
shown_element r slot (DescriptorTable a) = number slot ++ codes ":table:" ++ decimal a
shown_element r slot (DynamicUniformBuffer a) = number slot ++ codes ":uniform:" ++ decimal a

abbrev pub is_zero : VertexBufferView → Bool
is_zero v = v.address == 0 && v.size == 0 && v.stride == 0

-- the view of a vertex slot, if some number of it is not 0
abbrev pub shown_view : ℕ → VertexBufferView → List ℕ
shown_view slot v =
    if is_zero v then []
    else codes " v" ++ decimal slot ++ codes ":" ++ decimal v.address ++ codes ":"
    ++ decimal v.size ++ codes ":" ++ decimal v.stride

-- each slot, from the lowest up
abbrev pub by_slot : {X : Type 0} → (ℕ → X → List ℕ) → List X → List ℕ
by_slot text xs = flat_map (λ p. text p.0 p.1) (enumerate_from 0 xs)

-- the state of a pass: the current signature, the touched slots, and what each slot has
abbrev pub shown_pass : PassState → List ℕ
shown_pass p =
    codes "pass " ++ decimal (signature_of p.roots.layout) ++ codes " "
    ++ mask p.roots.dirty_root_elements ++ codes " " ++ mask p.vertices.dirty_vertex_buffers
    ++ by_slot (shown_element p.roots) p.roots.root_elements
    ++ by_slot shown_view p.vertices.vertex_buffers
