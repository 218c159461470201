-- What a writer leaves in the caller's bytes.
use Rattle.std.specs.Prelude.{Bool, Some, None, Option, IsTrue, ◌≡◌, ℕ, ◌+◌, ◌<◌, ◌≤◌, min, true, false, List, [], ◌∷◌, ◌++◌, length, take, drop, Ok, Err, Result}
use Rattle.command_list.specs.declared.code.Code.{Code}
use Rattle.command_list.specs.declared.fault.Fault.{Fault}
use Rattle.command_list.specs.declared.command.Fixed.{Fixed}
use Rattle.command_list.specs.Numbers.{Field, bytes, total, Fit}
use Rattle.command_list.specs.Commands.{Command, BeginEvent, OMSetRenderTargets, ResourceBarrier, framed, record_of, size, readable}
use Rattle.command_list.specs.Files.{most_bytes, file, accepted}
use Rattle.command_list.specs.Seen.{IsFault, fixed_command}

-- fs were written at the start of xs, which left ys; they took n bytes
pub record Laid (fs : List Field) (xs ys : List ℕ) (n : ℕ) : Type 0 where
  pub long : n ≡ total fs
  pub wrote : ys ≡ bytes fs ++ drop n xs
  pub fit : Fit fs

-- how many of so many bytes a list may use
abbrev pub room : ℕ → ℕ
room n = min n most_bytes

-- behind the first n bytes of xs stands the record of a code and its fields, which ends at m; all
-- else is as it was
pub record Grew (xs : List ℕ) (n : ℕ) (k : Code) (fs : List Field) (m : ℕ) (ys : List ℕ) : Type 0 where
  pub ends : m ≡ n + (3 + total fs)
  pub within : m ≤ room (length xs)
  pub wrote : ys ≡ take n xs ++ (bytes (framed k fs) ++ drop m xs)
  pub fit : Fit (framed k fs)

-- the record does not fit behind the first n bytes
pub record Lacks (xs : List ℕ) (n : ℕ) (fs : List Field) (f : Fault) (ys : List ℕ) : Type 0 where
  pub fault : IsFault f 10 0
  pub less : room (length xs) < n + (3 + total fs)
  pub same : ys ≡ xs

abbrev pub Appended : List ℕ → ℕ → Code → List Field → Result ℕ Fault → List ℕ → Type 0
Appended xs n k fs (Ok m) ys = Grew xs n k fs m ys
Appended xs n k fs (Err f) ys = Lacks xs n fs f ys

-- c was written behind the first n bytes of xs, up to m: those bytes stay, its record stands after
-- them, and what is beyond it stays; so a list file of n bytes is now one of m bytes, with c as its
-- last command
pub record Wrote (c : Command) (xs : List ℕ) (n m : ℕ) (ys : List ℕ) : Type 0 where
  pub taken : readable c ≡ true
  pub ends : m ≡ n + size c
  pub within : m ≤ room (length xs)
  pub wrote : ys ≡ take n xs ++ (record_of c ++ drop m xs)
  pub reads : (cs : List Command) → file (take n xs) ≡ accepted cs
      → file (take m ys) ≡ accepted (cs ++ (c ∷ []))

-- nothing was written: c is not readable, or its record does not fit behind the first n bytes
pub record Unwritten (c : Command) (xs : List ℕ) (n : ℕ) (f : Fault) (ys : List ℕ) : Type 0 where
  pub fault : IsFault f 10 0
  pub why : readable c ≡ true → n + size c ≤ room (length xs) → ⊥
  pub same : ys ≡ xs

abbrev pub Written : Command → List ℕ → ℕ → Result ℕ Fault → List ℕ → Type 0
Written c xs n (Ok m) ys = Wrote c xs n m ys
Written c xs n (Err f) ys = Unwritten c xs n f ys

-- a list without commands was begun: its version stands first, and what is beyond it stays
pub record Began (xs : List ℕ) (n : ℕ) (ys : List ℕ) : Type 0 where
  pub some : 0 < length xs
  pub short : length xs ≤ most_bytes
  pub ends : n ≡ 1
  pub wrote : ys ≡ 1 ∷ drop 1 xs
  pub reads : file (take n ys) ≡ accepted []

-- there are no bytes, or more than a list may have; nothing was written
pub record Unbegun (xs : List ℕ) (f : Fault) (ys : List ℕ) : Type 0 where
  pub fault : IsFault f 10 0
  pub why : 0 < length xs → length xs ≤ most_bytes → ⊥
  pub same : ys ≡ xs

abbrev pub Begun : List ℕ → Result ℕ Fault → List ℕ → Type 0
Begun xs (Ok n) ys = Began xs n ys
Begun xs (Err f) ys = Unbegun xs f ys

-- how long a command's record is, where it has one
abbrev pub Measured : Command → Result ℕ Fault → Type 0
Measured c (Ok n) = (readable c ≡ true) × (n ≡ size c)
Measured c (Err f) = (readable c ≡ false) × IsFault f 10 0

-- a command of a fixed width, or one with a list among its operands
abbrev pub has_list : Command → Bool
has_list (BeginEvent us) = true
has_list (OMSetRenderTargets hs) = true
has_list (ResourceBarrier es) = true
has_list c = false

abbrev pub IsFixed : Option Fixed → Command → Type 0
IsFixed (Some f) c = c ≡ fixed_command f
IsFixed None c = IsTrue (has_list c)
