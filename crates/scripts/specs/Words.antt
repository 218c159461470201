-- What the words of a line say, each for itself.
use Rattle.std.specs.Prelude.{◌≡◌, ℕ, ◌<◌, ◌^◌, Bool, ◌&&◌, List, [], length, take, drop, Option, Some, None, Ok, Err, Result, SomeIff, option_map, option_and_then, nat_lt, if◌then◌else◌, codes}
use Rattle.std.specs.Result.{result_ok}
use Rattle.std.specs.List.{list_all}
use Rattle.std.specs.Borrow.{Bor}
use Rattle.std.specs.Char.{is_digit}
use Rattle.std.specs.Str.{bytes_eq}
use Rattle.std.specs.Str.Parse.{IsNumeral, digits_value}
use Rattle.hex.specs.Hex.{decode_of}
use Rattle.scripts.specs.declared.not_done.NotDone.{NotDone}
use Rattle.scripts.specs.declared.not_done.NotDone.TheVariants.{BadLine, Memory}

-- a word of a line
abbrev pub Word : Type 0
Word = Bor (List ℕ)

abbrev pub is : List ℕ → Word → Bool
is text word = bytes_eq word.now text

infixl 10 ◌>>=◌
abbrev pub ◌>>=◌ : {A B : Type 0} → Option A → (A → Option B) → Option B
o >>= f = option_and_then f o

-- digits of this radix are read as their number, if it has 64 bits, and no other text is
abbrev pub IsRead : ℕ → List ℕ → Option ℕ → Type 0
IsRead radix ds r =
    SomeIff r (IsNumeral radix ds × (digits_value radix ds < 2 ^ 64)) (digits_value radix ds)

-- the text is one digit of this radix or more, and nothing else
abbrev pub is_numeral : ℕ → List ℕ → Bool
is_numeral radix ds = nat_lt 0 (length ds) && list_all (λ c. is_digit c radix) ds

-- a number, if the test holds and it has so many bits
abbrev pub fitting : Bool → ℕ → ℕ → Option ℕ
fitting test bits n = if test && nat_lt n (2 ^ bits) then Some n else None

abbrev pub numeral : ℕ → ℕ → List ℕ → Option ℕ
numeral radix bits ds = fitting (is_numeral radix ds) bits (digits_value radix ds)

-- the number of so many bits that a text is: decimal, or in hex behind 0x
unfoldable pub number : ℕ → List ℕ → Option ℕ
number bits text =
    if bytes_eq (take 2 text) (codes "0x")
    then numeral 16 bits (drop 2 text) else numeral 10 bits text

-- the label that a text is: none, the empty one, or its bytes in hex
abbrev pub label : List ℕ → Option (Option (List ℕ))
label text =
    if bytes_eq text (codes "-") then Some None
    else if bytes_eq text (codes "empty") then Some (Some [])
    else option_map (λ bytes. Some bytes) (result_ok (decode_of text))

-- what is read, seen so, is what the words say; where they say nothing, the line is bad; no memory may be left for it
abbrev pub ReadsAs : {A B : Type 0} → (A → B) → Option B → Result A NotDone → Type 0
ReadsAs seen said (Ok x) = said ≡ Some (seen x)
ReadsAs seen said (Err BadLine) = said ≡ None
ReadsAs seen said (Err (Memory e)) = Unit {0}
ReadsAs seen said (Err _) = ⊥

abbrev pub Reads : {A : Type 0} → Option A → Result A NotDone → Type 0
Reads = ReadsAs (λ x. x)
