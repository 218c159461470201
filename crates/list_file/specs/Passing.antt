-- What a pass over a whole file comes to.
use Rattle.std.specs.Prelude.{◌≡◌, ℕ, ◌<◌, ◌≤◌, Bool, true, ◌&&◌, List, [], ◌∷◌, ◌++◌, length, take, drop, Ok, Err, Result, slice_index}
use Rattle.command_list.specs.declared.fault.Fault.{Fault}
use Rattle.command_list.specs.Commands.{Command, fields, record_of, size, readable}
use Rattle.command_list.specs.Numbers.{Fit}
use Rattle.command_list.specs.Decoding.{first, front}
use Rattle.command_list.specs.Files.{most_bytes, Verdict, accepted, refused, file, encoded}
use Rattle.command_list.specs.Seen.{IsFault}

-- n commands are accepted
abbrev pub Holds : Verdict → ℕ → Type 0
Holds (accepted cs) n = length cs ≡ n
Holds (refused r p) n = ⊥

-- f is the first refusal
abbrev pub Stops : Verdict → Fault → Type 0
Stops (accepted cs) f = ⊥
Stops (refused r p) f = IsFault f r p

-- a file was gone through: it has n records, or f is its first refusal
abbrev pub Checked : List ℕ → Result ℕ Fault → Type 0
Checked bs (Ok n) = Holds (file bs) n
Checked bs (Err f) = Stops (file bs) f

-- the commands of bs were written again at the start of xs, which left ys: they give the n bytes of
-- bs itself
pub record Rewrote (bs xs : List ℕ) (n : ℕ) (ys : List ℕ) : Type 0 where
  pub commands : List Command
  pub says : file bs ≡ accepted commands
  pub own : encoded commands ≡ bs
  pub ends : n ≡ length bs
  pub wrote : ys ≡ encoded commands ++ drop n xs

-- f is the first refusal of bs, or xs does not take a file that is accepted
abbrev pub Unfit : Verdict → List ℕ → List ℕ → Fault → Type 0
Unfit (accepted cs) bs xs f = IsFault f 10 0 × (length xs < length bs)
Unfit (refused r p) bs xs f = IsFault f r p

abbrev pub Rewritten : List ℕ → List ℕ → Result ℕ Fault → List ℕ → Type 0
Rewritten bs xs (Ok n) ys = Rewrote bs xs n ys
Rewritten bs xs (Err f) ys = Unfit (file bs) bs xs f × (ys ≡ xs)

abbrev pub all_readable : List Command → Bool
all_readable [] = true
all_readable (c ∷ cs) = readable c && all_readable cs

-- how long a list of cs is
abbrev pub ListSize : List Command → Result ℕ Fault → Type 0
ListSize cs (Ok n) = (all_readable cs ≡ true) × (n ≡ length (encoded cs)) × (n ≤ most_bytes)
ListSize cs (Err f) =
    IsFault f 10 0 × (all_readable cs ≡ true → length (encoded cs) ≤ most_bytes → ⊥)

-- the list of cs was written at the start of xs, which left ys: its n bytes read back as cs
pub record Listed (cs : List Command) (xs : List ℕ) (n : ℕ) (ys : List ℕ) : Type 0 where
  pub ends : n ≡ length (encoded cs)
  pub wrote : ys ≡ encoded cs ++ drop n xs
  pub reads : file (take n ys) ≡ accepted cs

-- nothing was written: a command is not readable, or the list does not fit
pub record Unlisted (cs : List Command) (xs : List ℕ) (f : Fault) (ys : List ℕ) : Type 0 where
  pub fault : IsFault f 10 0
  pub why : all_readable cs ≡ true → length (encoded cs) ≤ length xs → length xs ≤ most_bytes → ⊥
  pub same : ys ≡ xs

abbrev pub ListWritten : List Command → List ℕ → Result ℕ Fault → List ℕ → Type 0
ListWritten cs xs (Ok n) ys = Listed cs xs n ys
ListWritten cs xs (Err f) ys = Unlisted cs xs f ys

-- a command is readable exactly where some bytes are read as it, and those are its record
abbrev pub RecordsKnown : Type 0
RecordsKnown =
    (c : Command) →
    (readable c ≡ true → Fit (fields c) → front (record_of c) ≡ first c (size c))
    × ((bs : List ℕ) → ((i : ℕ) → slice_index bs i < 256) → front bs ≡ first c (length bs)
    → (readable c ≡ true) × (bs ≡ record_of c))
