-- Unicode's encoding forms, after chapter 3 of the standard (section 3.9).
use Rattle.std.specs.Prelude.{◌≡◌, ℕ, ◌+◌, ◌-◌, ◌/◌, ◌%◌, ◌<◌, ◌≤◌, cond, ◌⊎◌, List, [], ◌∷◌, ◌++◌, nat_lt}

-- a scalar value: a code point that is no surrogate, 0 to D7FF or E000 to 10FFFF
abbrev pub Scalar : ℕ → Type 0
Scalar c = (c < 0xD800) ⊎ ((0xE000 ≤ c) × (c < 0x110000))

-- each of them is one
abbrev pub Scalars : List ℕ → Type 0
Scalars [] = Unit {0}
Scalars (c ∷ cs) = Scalar c × Scalars cs

-- a byte behind the first one: 10xxxxxx, six bits
abbrev pub trailing : ℕ → ℕ
trailing bits = 0x80 + bits % 0x40

-- UTF-8 (table 3-6): 0xxxxxxx, 110yyyyy 10xxxxxx, 1110zzzz 10yyyyyy 10xxxxxx
-- or 11110uuu 10zzzzzz 10yyyyyy 10xxxxxx, by the size of the scalar value
abbrev pub utf8 : ℕ → List ℕ
utf8 c =
    cond (nat_lt c 0x80) (c ∷ [])
    (cond (nat_lt c 0x800) ((0xC0 + c / 0x40) ∷ trailing c ∷ [])
    (cond (nat_lt c 0x10000) ((0xE0 + c / 0x1000) ∷ trailing (c / 0x40) ∷ trailing c ∷ [])
    ((0xF0 + c / 0x40000) ∷ trailing (c / 0x1000) ∷ trailing (c / 0x40) ∷ trailing c ∷ [])))

-- the bytes of scalar values, one behind the other
abbrev pub utf8s : List ℕ → List ℕ
utf8s [] = []
utf8s (c ∷ cs) = utf8 c ++ utf8s cs

-- UTF-16 (table 3-5): one unit below 10000, else a surrogate pair with ten bits of the rest in each
abbrev pub utf16 : ℕ → List ℕ
utf16 c =
    cond (nat_lt c 0x10000) (c ∷ [])
    ((0xD800 + (c - 0x10000) / 0x400) ∷ (0xDC00 + (c - 0x10000) % 0x400) ∷ [])

-- the units of scalar values, one behind the other
abbrev pub utf16s : List ℕ → List ℕ
utf16s [] = []
utf16s (c ∷ cs) = utf16 c ++ utf16s cs

-- these bytes are UTF-8 for the scalar values cs
abbrev pub Encodes : List ℕ → List ℕ → Type 0
Encodes cs bs = Scalars cs × (utf8s cs ≡ bs)

-- well-formed UTF-8: the encoding of some scalar values
abbrev pub WellFormed : List ℕ → Type 0
WellFormed bs = (cs : List ℕ) × Encodes cs bs

-- a byte from one to another
abbrev pub From : ℕ → ℕ → ℕ → Type 0
From low high b = (low ≤ b) × (b ≤ high)

-- a byte behind the first one
abbrev pub Tail : ℕ → Type 0
Tail b = From 0x80 0xBF b

-- the well-formed bytes of one scalar value, row by row of table 3-7
abbrev pub Row : List ℕ → Type 0
Row (a ∷ []) = From 0x00 0x7F a
Row (a ∷ b ∷ []) = From 0xC2 0xDF a × Tail b
Row (a ∷ b ∷ c ∷ []) =
    (((a ≡ 0xE0) × From 0xA0 0xBF b) ⊎ ((From 0xE1 0xEC a × Tail b)
    ⊎ (((a ≡ 0xED) × From 0x80 0x9F b) ⊎ (From 0xEE 0xEF a × Tail b)))) × Tail c
Row (a ∷ b ∷ c ∷ d ∷ []) =
    (((a ≡ 0xF0) × From 0x90 0xBF b) ⊎ ((From 0xF1 0xF3 a × Tail b)
    ⊎ ((a ≡ 0xF4) × From 0x80 0x8F b))) × Tail c × Tail d
Row _ = ⊥

-- bytes that are rows of the table, one behind the other
pub data Tabled : List ℕ → Type 0 where
  none : Tabled []
  more : (row rest : List ℕ) → Row row → Tabled rest → Tabled (row ++ rest)
