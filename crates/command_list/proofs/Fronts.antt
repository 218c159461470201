-- The front of what is left of a file.
use Rattle.std.proofs.Common.{◌≡◌, ℕ, zero, suc, ◌+◌, ◌-◌, ◌*◌, ◌<◌, ◌≤◌, true, false, ◌||◌, eqb, ltb, ◌⊎◌, List, [], ◌∷◌, length, get_or, take, drop, sym, refl, ap, ◌∙◌, ⊎_elim, arith}
use Rattle.std.proofs.lemmas.List.{take_rest}
use Rattle.std.proofs.lemmas.Bool.{cond-true, cond-false, eq-eqb, ne_eqb, lt-ltb, le-ltb, or_left, or_right, or_from, or_parts, and_left, and_right, lt-leb, eqb-false, ltb-false, cases_Bool}
use Rattle.command_list.specs.Commands.{Command}
use Rattle.command_list.specs.Files.{most_bytes, has_version}
use Rattle.command_list.specs.Decoding.{Decoded, takes, wrong, decode_named, code_named, first, sized, Framing, no_frame, frame, cut, framing, read_frame, front}

-- how long a record says it is
abbrev pub said : List ℕ → ℕ
said bs = get_or bs 0 0 * 256 + get_or bs 1 0

pub framing_none : (bs : List ℕ) → length bs ≡ 0 → framing bs ≡ no_frame
framing_none [] e = refl
framing_none (b ∷ bs) e = absurd (omega arith)

pub framing_short : (bs : List ℕ) → 0 < length bs → length bs < 3 → framing bs ≡ cut
framing_short [] h l = absurd (omega arith)
framing_short (a ∷ []) h l = refl
framing_short (a ∷ b ∷ []) h l = refl
framing_short (a ∷ b ∷ k ∷ bs) h l = absurd (omega arith)

pub framing_cut : (bs : List ℕ) → 3 ≤ length bs → (said bs ≡ 0) ⊎ (length bs - 3 < said bs - 1)
    → framing bs ≡ cut
framing_cut (a ∷ b ∷ k ∷ bs) l w =
    let no : (eqb (a * 256 + b) 0 || ltb (length bs) (a * 256 + b - 1)) ≡ true =
    ⊎_elim (λ e. or_left _ _ (eq-eqb (a * 256 + b) 0 e))
    (λ h. or_right _ _ (lt-ltb (length bs) (a * 256 + b - 1) (omega arith))) w in
    cond-true _ _ _ no
framing_cut _ l w = absurd (omega arith)

pub framing_whole : (bs : List ℕ) → 3 ≤ length bs → 0 < said bs → said bs - 1 ≤ length bs - 3
    → framing bs ≡ frame (get_or bs 2 0) (take (said bs - 1) (drop 3 bs)) (2 + said bs)
framing_whole (a ∷ b ∷ k ∷ bs) l p h =
    cond-false _ _ _
    (or_from _ _ (ne_eqb (a * 256 + b) 0 (λ z. omega arith))
    (le-ltb (length bs) (a * 256 + b - 1) (omega arith)))
framing_whole _ l p h = absurd (omega arith)

-- a frame as it is cut from what follows the code
pub framing_read : (bs : List ℕ) (n : ℕ) → n ≡ said bs → 3 ≤ length bs → 0 < n → n - 1 ≤ length bs - 3
    → framing bs
    ≡ frame (get_or bs 2 0) (take (n - 1 - 0) (take (length bs - 3) (drop 3 bs))) (2 + n)
framing_read bs n s l p h =
    let own : take (said bs - 1 - 0) (take (length bs - 3) (drop 3 bs)) ≡ take (said bs - 1) (drop 3 bs) =
    ap (take (said bs - 1 - 0)) (take_rest bs 3) ∙ ap (λ m. take m (drop 3 bs)) (omega arith) in
    framing_whole bs l (omega arith) (omega arith)
    ∙ ap (λ ops. frame (get_or bs 2 0) ops (2 + said bs)) (sym own)
    ∙ ap (λ m. frame (get_or bs 2 0) (take (m - 1 - 0) (take (length bs - 3) (drop 3 bs))) (2 + m)) (sym s)

-- what a list file says of a whole frame
pub front_whole : (bs : List ℕ) → 3 ≤ length bs → 0 < said bs → said bs - 1 ≤ length bs - 3
    → front bs
    ≡ sized (decode_named (code_named (get_or bs 2 0)) (take (said bs - 1) (drop 3 bs))) (2 + said bs)
unfolding front
front_whole bs l p h = ap read_frame (framing_whole bs l p h)

-- a frame lies within the bytes, and takes three of them at least
pub framing_within : (bs : List ℕ) (k : ℕ) (ops : List ℕ) (n : ℕ) → framing bs ≡ frame k ops n
    → (3 ≤ n) × (n ≤ length bs)
framing_within (a ∷ b ∷ k ∷ bs) c ops n e =
    ⊎_elim
    (λ t. absurd (cut_frame (sym (cond-true _ _ _ t) ∙ e)))
    (λ f.
    let p = or_parts _ _ f in
    let some = eqb-false (a * 256 + b) 0 p.0 in
    let far = ltb-false (length bs) (a * 256 + b - 1) p.1 in
    let same = frame_same (sym (cond-false _ _ _ f) ∙ e) in
    (positive (a * 256 + b) n some same, omega arith))
    (cases_Bool (eqb (a * 256 + b) 0 || ltb (length bs) (a * 256 + b - 1)))
  where
    cut_frame : {k m : ℕ} {ops : List ℕ} → cut ≡ frame k ops m → ⊥
    cut_frame e = let z : ◌≡◌ {A = ℕ} 0 1 = cc in omega arith

    frame_same : {j k m n : ℕ} {os ps : List ℕ} → frame j os m ≡ frame k ps n → m ≡ n
    frame_same e = cc

    positive : (s n : ℕ) → (s ≡ 0 → ⊥) → 2 + s ≡ n → 3 ≤ n
    positive zero n h e = absurd (h refl)
    positive (suc s) n h e = omega arith
framing_within [] c ops n e = absurd (let z : ◌≡◌ {A = ℕ} 0 1 = cc in omega arith)
framing_within (a ∷ []) c ops n e = absurd (let z : ◌≡◌ {A = ℕ} 0 1 = cc in omega arith)
framing_within (a ∷ b ∷ []) c ops n e = absurd (let z : ◌≡◌ {A = ℕ} 0 1 = cc in omega arith)

first_same : {c d : Command} {m n : ℕ} → first c m ≡ first d n → m ≡ n
first_same e = cc

sized_first : (d : Decoded) (m n : ℕ) (c : Command) → sized d m ≡ first c n → m ≡ n
sized_first (takes b) m n c e = first_same e
sized_first (wrong r) m n c e = absurd (let z : ◌≡◌ {A = ℕ} 0 1 = cc in omega arith)

within_frame : (x : Framing) (l : ℕ) (c : Command) (n : ℕ)
    → ((k : ℕ) (ops : List ℕ) (m : ℕ) → x ≡ frame k ops m → (3 ≤ m) × (m ≤ l))
    → read_frame x ≡ first c n → (3 ≤ n) × (n ≤ l)
within_frame (frame k ops m) l c n h e =
    let w = h k ops m refl in
    let same = sized_first (decode_named (code_named k) ops) m n c e in
    (omega arith, omega arith)
within_frame no_frame l c n h e = absurd (let z : ◌≡◌ {A = ℕ} 0 1 = cc in omega arith)
within_frame cut l c n h e = absurd (let z : ◌≡◌ {A = ℕ} 0 1 = cc in omega arith)

-- a record lies within what is left, and takes three bytes at least
pub front_within : (bs : List ℕ) (c : Command) (n : ℕ) → front bs ≡ first c n → (3 ≤ n) × (n ≤ length bs)
unfolding front
front_within bs c n e = within_frame (framing bs) (length bs) c n (framing_within bs) e

-- why a file has no version
pub too_long : (bs : List ℕ) → most_bytes < length bs → has_version bs ≡ false
too_long bs h = and_left _ _ (lt-leb (length bs) most_bytes h)

pub other_version : (bs : List ℕ) → (get_or bs 0 0 ≡ 1 → ⊥) → has_version bs ≡ false
other_version bs h = and_right _ _ (ne_eqb (get_or bs 0 0) 1 h)

pub empty : (bs : List ℕ) → length bs ≡ 0 → has_version bs ≡ false
empty [] e = refl
empty (b ∷ bs) e = absurd (omega arith)
