-- What a whole list file says.
use Rattle.std.specs.Prelude.{ℕ, zero, suc, ◌+◌, Bool, true, false, cond, ◌&&◌, List, [], ◌∷◌, length, drop, ◌==◌, nat_le, slice_index}
use Rattle.std.specs.List.{flat_map}
use Rattle.command_list.specs.Commands.{Command, record_of}
use Rattle.command_list.specs.Decoding.{Front, ended, first, broken, front}

-- the commands of a file, or the number and the place of its first refusal
pub data Verdict : Type 0 where
  accepted : List Command → Verdict
  refused : ℕ → ℕ → Verdict

abbrev pub after : Command → Verdict → Verdict
after c (accepted cs) = accepted (c ∷ cs)
after c (refused n p) = refused n p

-- what follows the front of a file at a place, where more tells what follows a record of so many
-- bytes
abbrev pub followed : Front → ℕ → (ℕ → Verdict) → Verdict
followed ended at more = accepted []
followed (first c n) at more = after c (more n)
followed (broken r) at more = refused r at

-- the records from a place on, of which there are fewer than n
unfoldable pub records : ℕ → ℕ → List ℕ → Verdict
records zero at bs = accepted []
records (suc n) at bs = followed (front bs) at (λ k. records n (at + k) (drop k bs))

-- the longest list file in bytes
abbrev pub most_bytes : ℕ
most_bytes = 65536

-- no longer than that, and the first byte is the version 1
abbrev pub has_version : List ℕ → Bool
has_version bs = nat_le (length bs) most_bytes && slice_index bs 0 == 1

-- a list file
unfoldable pub file : List ℕ → Verdict
file bs = cond (has_version bs) (records (length bs) 1 (drop 1 bs)) (refused 21 0)

-- the file of some commands
abbrev pub encoded : List Command → List ℕ
encoded cs = 1 ∷ flat_map record_of cs

abbrev pub is_accepted : Verdict → Bool
is_accepted (accepted cs) = true
is_accepted (refused n p) = false
