-- Direct3D's states of a resource, and which of them each usage flag brings.
use Rattle.std.specs.Prelude.{ℕ, ◌+◌, cond, List, [], ◌∷◌, bit_or}
use Rattle.command_list.specs.Bits.{bit}

-- D3D12_RESOURCE_STATES, under Microsoft's names in small letters
abbrev pub common : ℕ
common = 0x0

abbrev pub vertex_and_constant_buffer : ℕ
vertex_and_constant_buffer = 0x1

abbrev pub index_buffer : ℕ
index_buffer = 0x2

abbrev pub render_target : ℕ
render_target = 0x4

abbrev pub unordered_access : ℕ
unordered_access = 0x8

abbrev pub depth_write : ℕ
depth_write = 0x10

abbrev pub depth_read : ℕ
depth_read = 0x20

abbrev pub non_pixel_shader_resource : ℕ
non_pixel_shader_resource = 0x40

abbrev pub pixel_shader_resource : ℕ
pixel_shader_resource = 0x80

abbrev pub indirect_argument : ℕ
indirect_argument = 0x200

abbrev pub copy_dest : ℕ
copy_dest = 0x400

abbrev pub copy_source : ℕ
copy_source = 0x800

-- read by any shader
abbrev pub all_shader_resource : ℕ
all_shader_resource = bit_or non_pixel_shader_resource pixel_shader_resource

-- what the flag of value 2 ^ k brings, in a usage that has it
abbrev pub flag_state : ℕ → ℕ → ℕ → ℕ
flag_state u k s = cond (bit u k) s common

-- a state with what the flags of a usage bring, from the flag of value 2 ^ k on: their bitwise or
abbrev pub united : ℕ → ℕ → ℕ → List ℕ → ℕ
united u k state [] = state
united u k state (s ∷ ss) = united u (k + 1) (bit_or state (flag_state u k s)) ss

-- what each flag of a buffer's usage brings; the flags double from 1 in this order
abbrev pub buffer_flags : ℕ → List ℕ
buffer_flags u =
    -- COPY_SRC, COPY_DST
    copy_source ∷ copy_dest ∷
    -- INDEX, VERTEX, UNIFORM
    index_buffer ∷ vertex_and_constant_buffer ∷ vertex_and_constant_buffer ∷
    -- STORAGE_READ_ONLY, which brings nothing beside STORAGE_READ_WRITE
    cond (bit u 6) common all_shader_resource ∷ unordered_access ∷
    -- INDIRECT, ACCELERATION_STRUCTURE_QUERY
    indirect_argument ∷ unordered_access ∷ []

-- the same for a texture
abbrev pub texture_flags : List ℕ
texture_flags =
    -- UNINITIALIZED, COPY_SRC, COPY_DST
    common ∷ copy_source ∷ copy_dest ∷
    -- RESOURCE, COLOR_TARGET
    all_shader_resource ∷ render_target ∷
    -- DEPTH_STENCIL_READ, DEPTH_STENCIL_WRITE
    depth_read ∷ depth_write ∷
    -- STORAGE_READ_ONLY, STORAGE_WRITE_ONLY, STORAGE_READ_WRITE
    unordered_access ∷ unordered_access ∷ unordered_access ∷ []
