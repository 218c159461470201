-- Usages of buffers and of textures: what Direct3D has them as.
use Rattle.std.specs.Prelude.{◌≡◌, ℕ, ◌^◌, ◌<◌, Bool, true, ◌||◌, List, length, ◌==◌, nat_lt, slice_index_or}
use Rattle.command_list.specs.Bits.{bit}
use Rattle.resources.specs.States.{common, united, buffer_flags, texture_flags}

-- a usage's flags, by the kind of the resource
pub data Usage : Type 0 where
  buffer : ℕ → Usage
  texture : ℕ → Usage

abbrev pub bits_of : Usage → ℕ
bits_of (buffer u) = u
bits_of (texture u) = u

-- what its flags bring, one by one
abbrev pub flags_of : Usage → List ℕ
flags_of (buffer u) = buffer_flags u
flags_of (texture u) = texture_flags

-- no flag but the known ones
abbrev pub known : Usage → Bool
known (buffer u) = nat_lt u 512
known (texture u) = nat_lt u 1024

-- the state of a usage
abbrev pub state_of : Usage → ℕ
state_of (buffer u) = united u 0 common (buffer_flags u)
state_of (texture u) = united u 0 common texture_flags

-- two accesses of this usage in a row need a UAV barrier: STORAGE_READ_WRITE alone, and for buffers
-- ACCELERATION_STRUCTURE_QUERY alone
abbrev pub ordered : Usage → Bool
ordered (buffer u) = u == 2 ^ 6 || u == 2 ^ 8
ordered (texture u) = u == 2 ^ 9

-- some flag of a usage brings the state of value 2 ^ s
abbrev pub Brings : Usage → ℕ → Type 0
Brings u s =
    (k : ℕ) × (k < length (flags_of u))
    × (bit (bits_of u) k ≡ true) × (bit (slice_index_or (flags_of u) k common) s ≡ true)

-- a state holds just what the flags bring
pub record Stated (u : Usage) (state : ℕ) : Type 0 where
  pub is : state ≡ state_of u
  pub brought : (s : ℕ) → bit state s ≡ true → Brings u s
  pub whole : (s : ℕ) → Brings u s → bit state s ≡ true
