-- A binding: a part of a buffer, from an offset on.
use Rattle.std.specs.Prelude.{ℕ, ◌+◌, ◌-◌, ◌^◌, ◌<◌, ◌≤◌, cond, ◌==◌}
use Rattle.bindings.specs.declared.binding.BufferBinding.{BufferBinding}

-- where it begins
abbrev pub address_of : BufferBinding → ℕ
address_of b = b.buffer.address + b.offset

-- how many bytes it has: the given number, or for 0 the buffer's rest from the offset on
abbrev pub size_of : BufferBinding → ℕ
size_of b = cond (b.size == 0) (b.buffer.size - b.offset) b.size

-- an address has 64 bits
abbrev pub Reachable : BufferBinding → Type 0
Reachable b = address_of b < 2 ^ 64

-- it begins within the buffer or at its end, and a size has 32 bits
abbrev pub Sized : BufferBinding → Type 0
Sized b = (b.offset ≤ b.buffer.size) × (size_of b < 2 ^ 32)
