-- Table 3-7 says the same as the encoding form.
use Rattle.std.proofs.Common.{◌≡◌, ℕ, ◌+◌, ◌-◌, ◌*◌, ◌/◌, ◌<◌, ◌≤◌, ltb, List, [], ◌∷◌, ◌++◌, refl, ap, ◌∙◌, subst, ap₂, inl, inr, ⊎_elim, arith}
use Rattle.std.proofs.lemmas.Bool.{lt-ltb, le-ltb, cond_both, ltb-true, ltb-false, cases_lt}
use Rattle.labels.specs.Unicode.{Scalar, Scalars, trailing, utf8, utf8s, WellFormed, From, Tail, Row, Tabled, none, more}

-- ---- a scalar value's bytes are a row

tail : (x : ℕ) → Tail (trailing x)
tail x = (omega arith, omega arith)

three : (c : ℕ) → Scalar c → 0x800 ≤ c → c < 0x10000 → Row ((0xE0 + c / 0x1000) ∷ trailing (c / 0x40) ∷ trailing c ∷ [])
three c s l h = (
  ⊎_elim
      (λ k. inl (omega arith, (omega arith, omega arith)))
      (λ k. inr (⊎_elim
      (λ j. inl ((omega arith, omega arith), tail (c / 0x40)))
      (λ j. inr (⊎_elim
      (λ i. inl (omega arith, (omega arith, omega arith)))
      (λ i. inr ((omega (arith, i.0), omega (arith, i.0)), tail (c / 0x40))) s))
      (cases_lt c 0xD000)))
      (cases_lt c 0x1000),
  tail c,
)

four : (c : ℕ) → Scalar c → 0x10000 ≤ c → Row ((0xF0 + c / 0x40000) ∷ trailing (c / 0x1000) ∷ trailing (c / 0x40) ∷ trailing c ∷ [])
four c s l =
    let most : c < 0x110000 = ⊎_elim (λ h. omega arith) (λ h. h.1) s in (
      ⊎_elim
          (λ k. inl (omega arith, (omega arith, omega arith)))
          (λ k. inr (⊎_elim
          (λ j. inl ((omega arith, omega arith), tail (c / 0x1000)))
          (λ j. inr (omega arith, (omega arith, omega arith)))
          (cases_lt c 0x100000)))
          (cases_lt c 0x40000),
      tail (c / 0x40),
      tail c,
    )

row : (c : ℕ) → Scalar c → Row (utf8 c)
row c s =
    cond_both (ltb c 0x80) (c ∷ []) _ Row
    (λ e. let h = ltb-true c 0x80 e in (omega arith, omega arith))
    (λ e. let l = ltb-false c 0x80 e in
    cond_both (ltb c 0x800) ((0xC0 + c / 0x40) ∷ trailing c ∷ []) _ Row
    (λ f. let h = ltb-true c 0x800 f in ((omega arith, omega arith), tail c))
    (λ f. let k = ltb-false c 0x800 f in
    cond_both (ltb c 0x10000) ((0xE0 + c / 0x1000) ∷ trailing (c / 0x40) ∷ trailing c ∷ [])
    ((0xF0 + c / 0x40000) ∷ trailing (c / 0x1000) ∷ trailing (c / 0x40) ∷ trailing c ∷ []) Row
    (λ g. three c s k (ltb-true c 0x10000 g))
    (λ g. four c s (ltb-false c 0x10000 g))))

-- ---- a row is a scalar value's bytes

one_byte : (c : ℕ) → c < 0x80 → utf8 c ≡ c ∷ []
one_byte c h = rw (lt-ltb c 0x80 h)

two_bytes : (c : ℕ) → 0x80 ≤ c → c < 0x800 → utf8 c ≡ (0xC0 + c / 0x40) ∷ trailing c ∷ []
two_bytes c l h = rw (le-ltb c 0x80 l, lt-ltb c 0x800 h)

three_bytes : (c : ℕ) → 0x800 ≤ c → c < 0x10000 → utf8 c ≡ (0xE0 + c / 0x1000) ∷ trailing (c / 0x40) ∷ trailing c ∷ []
three_bytes c l h = let l₁ : 0x80 ≤ c = omega arith in rw (le-ltb c 0x80 l₁, le-ltb c 0x800 l, lt-ltb c 0x10000 h)

four_bytes : (c : ℕ) → 0x10000 ≤ c → utf8 c ≡ (0xF0 + c / 0x40000) ∷ trailing (c / 0x1000) ∷ trailing (c / 0x40) ∷ trailing c ∷ []
four_bytes c l =
    let l₁ : 0x80 ≤ c = omega arith in
    let l₂ : 0x800 ≤ c = omega arith in
    rw (le-ltb c 0x80 l₁, le-ltb c 0x800 l₂, le-ltb c 0x10000 l)

back_two : (a b : ℕ) → From 0xC2 0xDF a → Tail b → (c : ℕ) × (Scalar c × (utf8 c ≡ a ∷ b ∷ []))
back_two a b p q =
    let c = (a - 0xC0) * 0x40 + (b - 0x80) in
    let h : c < 0x800 = omega arith in
    let x : 0xC0 + c / 0x40 ≡ a = omega arith in
    let y : trailing c ≡ b = omega arith in
    (c, (inl (omega arith), two_bytes c (omega arith) h ∙ ap₂ (λ (m n : ℕ). m ∷ n ∷ []) x y))

-- the scalar value that three bytes would encode, if it is one
back_three : (a b c : ℕ) → From 0xE0 0xEF a → Tail b → Tail c → 0x800 ≤ (a - 0xE0) * 0x1000 + (b - 0x80) * 0x40 + (c - 0x80) → Scalar ((a - 0xE0) * 0x1000 + (b - 0x80) * 0x40 + (c - 0x80))
    → (n : ℕ) × (Scalar n × (utf8 n ≡ a ∷ b ∷ c ∷ []))
back_three a b c p q r l s =
    let n = (a - 0xE0) * 0x1000 + (b - 0x80) * 0x40 + (c - 0x80) in
    let x : 0xE0 + n / 0x1000 ≡ a = omega arith in
    let y : trailing (n / 0x40) ≡ b = omega arith in
    let z : trailing n ≡ c = omega arith in
    (n, (s, three_bytes n l (omega arith) ∙ (ap (λ (m : ℕ). m ∷ trailing (n / 0x40) ∷ trailing n ∷ []) x ∙ ap₂ (λ (m k : ℕ). a ∷ m ∷ k ∷ []) y z)))

back_four : (a b c d : ℕ) → From 0xF0 0xF4 a → Tail b → Tail c → Tail d → 0x10000 ≤ (a - 0xF0) * 0x40000 + (b - 0x80) * 0x1000 + (c - 0x80) * 0x40 + (d - 0x80)
    → (a - 0xF0) * 0x40000 + (b - 0x80) * 0x1000 + (c - 0x80) * 0x40 + (d - 0x80) < 0x110000 → (n : ℕ) × (Scalar n × (utf8 n ≡ a ∷ b ∷ c ∷ d ∷ []))
back_four a b c d p q r t l h =
    let n = (a - 0xF0) * 0x40000 + (b - 0x80) * 0x1000 + (c - 0x80) * 0x40 + (d - 0x80) in
    let w : 0xF0 + n / 0x40000 ≡ a = omega arith in
    let x : trailing (n / 0x1000) ≡ b = omega arith in
    let y : trailing (n / 0x40) ≡ c = omega arith in
    let z : trailing n ≡ d = omega arith in (
      n,
      (
        inr (omega arith, h),
        four_bytes n l
            ∙ (ap₂ (λ (m k : ℕ). m ∷ k ∷ trailing (n / 0x40) ∷ trailing n ∷ []) w x ∙ ap₂ (λ (m k : ℕ). a ∷ b ∷ m ∷ k ∷ []) y z),
      ),
    )

back : (xs : List ℕ) → Row xs → (c : ℕ) × (Scalar c × (utf8 c ≡ xs))
back [] r = absurd r
back (a ∷ []) r = (a, (inl (omega arith), one_byte a (omega arith)))
back (a ∷ b ∷ []) (p, q) = back_two a b p q
back (a ∷ b ∷ c ∷ []) (inl (p, q), r) = back_three a b c (omega arith, omega arith) (omega arith, omega arith) r (omega arith) (inl (omega arith))
back (a ∷ b ∷ c ∷ []) (inr (inl (p, q)), r) = back_three a b c (omega arith, omega arith) q r (omega arith) (inl (omega arith))
back (a ∷ b ∷ c ∷ []) (inr (inr (inl (p, q))), r) = back_three a b c (omega arith, omega arith) (omega arith, omega arith) r (omega arith) (inl (omega arith))
back (a ∷ b ∷ c ∷ []) (inr (inr (inr (p, q))), r) = back_three a b c (omega arith, omega arith) q r (omega arith) (inr (omega arith, omega arith))
back (a ∷ b ∷ c ∷ d ∷ []) (inl (p, q), r, s) = back_four a b c d (omega arith, omega arith) (omega arith, omega arith) r s (omega arith) (omega arith)
back (a ∷ b ∷ c ∷ d ∷ []) (inr (inl (p, q)), r, s) = back_four a b c d (omega arith, omega arith) q r s (omega arith) (omega arith)
back (a ∷ b ∷ c ∷ d ∷ []) (inr (inr (p, q)), r, s) = back_four a b c d (omega arith, omega arith) (omega arith, omega arith) r s (omega arith) (omega arith)
back (a ∷ b ∷ c ∷ d ∷ e ∷ es) r = absurd r

-- ---- whole texts

rows : (cs : List ℕ) → Scalars cs → Tabled (utf8s cs)
rows [] s = none
rows (c ∷ cs) (s, ss) = more (utf8 c) (utf8s cs) (row c s) (rows cs ss)

-- no C0, C1 or F5 to FF, no overlong forms and no surrogates
pub tabled : (bs : List ℕ) → WellFormed bs → Tabled bs
tabled bs (cs, (s, e)) = subst Tabled e (rows cs s)

pub formed : {bs : List ℕ} → Tabled bs → WellFormed bs
formed none = ([], (tt, refl))
formed (more r rest p t) =
    let x = back r p in
    let ih = formed t in
    (x.0 ∷ ih.0, ((x.1.0, ih.1.0), ap₂ (λ (k l : List ℕ). k ++ l) x.1.1 ih.1.1))
