-- What is printed below a line that is not done, and what is told of bytes that are no hex.
use Rattle.std.specs.Prelude.{ℕ, List, ◌++◌, codes, decimal, string_bytes, alloc_error}
use Rattle.hex.specs.declared.error.FromHexError.{FromHexError}
use Rattle.hex.specs.declared.error.FromHexError.TheVariants as hex
use Rattle.command_list.specs.Seen.{number_of}
use Rattle.scripts.specs.declared.not_done.NotDone.{NotDone}
use Rattle.scripts.specs.declared.not_done.NotDone.TheVariants.{BadLine, Unknown, NotOffered, Refused, Memory}

abbrev pub printed : NotDone → List ℕ
printed BadLine = codes "bad line"
printed (Unknown name) = codes "unknown " ++ string_bytes name
printed NotOffered = codes "not offered"
printed (Refused f) =
    codes "refused " ++ (decimal (number_of f.number) ++ (codes " " ++ decimal f.place))
printed (Memory e) = codes "memory allocation failed"

abbrev pub no_hex : FromHexError → NotDone
no_hex hex.OutOfMemory = Memory alloc_error
no_hex _ = BadLine
