-- What a value of `ListBytes` means, and its bytes.
use Rattle.std.specs.Prelude.{ℕ, List, take, drop}
use Rattle.device.specs.Meaning.{Meaning}
use Rattle.list_bytes.specs.declared.ListBytes.{ListBytes}
use Rattle.list_bytes.specs.Listed.{listed}

abbrev pub meaning_of : ListBytes → Meaning
meaning_of s = listed s.bytes.now s.len

-- all the bytes that the list is kept in
abbrev pub bytes_of : ListBytes → List ℕ
bytes_of s = s.bytes.now

-- the list file
abbrev pub in_use : ListBytes → List ℕ
in_use s = take s.len s.bytes.now

-- what stands behind it
abbrev pub unused : ListBytes → List ℕ
unused s = drop s.len s.bytes.now
