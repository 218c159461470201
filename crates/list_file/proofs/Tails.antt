-- What is left of a file from a place on.
use Rattle.std.proofs.Common.{◌≡◌, ℕ, zero, suc, ◌+◌, ◌-◌, ◌<◌, ◌≤◌, true, false, List, [], ◌∷◌, ◌++◌, length, take, drop, Some, None, Option, sym, refl, ap, ◌∙◌, ap₂, append_assoc, arith, length-append, take-add}
use Rattle.std.proofs.lemmas.List.{drop-drop, length-drop, length_push, take_all, take_at, length-take-le}
use Rattle.std.proofs.lemmas.Bool.{cond-true, cond-false, and_parts, eqb-true, leb-true, false≢true}
use Rattle.command_list.specs.declared.fault.Fault.{Fault}
use Rattle.command_list.specs.Seen.{Record}
use Rattle.command_list.specs.Commands.{Command, record_of, size, readable}
use Rattle.command_list.specs.Decoding.{Front, ended, first, broken, front}
use Rattle.command_list.specs.Files.{most_bytes, Verdict, accepted, refused, after, followed, records, has_version, file, is_accepted}
use Rattle.list_writer.specs.Writing.{room, Wrote, Unwritten, Began, Unbegun}
use Rattle.list_file.specs.Passing.{Holds, Rewrote}
use Rattle.command_list.specs.Seen.{command_of, finished, got, stopped, seen_record, step_of, step_at}
use Rattle.command_list.proofs.Fronts.{front_within}
use Rattle.list_writer.proofs.Whole.{some_byte, ended_nil, front_back, front_readable, file_back}
use Rattle.list_writer.proofs.Bytewise.{Bytes, bytes_drop}

-- enough turns are enough
records_by : (n m at : ℕ) (bs : List ℕ) (f : Front) → front bs ≡ f → ((k : ℕ) → 3 ≤ k → k ≤ length bs → records n (at + k) (drop k bs) ≡ records m (at + k) (drop k bs))
    → followed f at (λ k. records n (at + k) (drop k bs)) ≡ followed f at (λ k. records m (at + k) (drop k bs))
records_by n m at bs ended q h = refl
records_by n m at bs (first c k) q h = let w = front_within bs c k q in ap (after c) (h k w.0 w.1)
records_by n m at bs (broken r) q h = refl

records_same : (n m at : ℕ) (bs : List ℕ) → length bs < n → length bs < m → records n at bs ≡ records m at bs
unfolding records
records_same zero m at bs h l = absurd (omega arith)
records_same (suc n) zero at bs h l = absurd (omega arith)
records_same (suc n) (suc m) at bs h l =
    records_by n m at bs (front bs) refl (λ k a b. let d = length-drop k bs in records_same n m (at + k) (drop k bs) (omega arith) (omega arith))

pub tail : List ℕ → ℕ → Verdict
tail bs at = records (suc (length (drop at bs))) at (drop at bs)

module _ (bs : List ℕ) (at : ℕ) where
  pub tail_ended : front (drop at bs) ≡ ended → tail bs at ≡ accepted []
  unfolding tail records
  tail_ended q = ap (λ f. followed f at (λ k. records (length (drop at bs)) (at + k) (drop k (drop at bs)))) q

  pub tail_broken : (r : ℕ) → front (drop at bs) ≡ broken r → tail bs at ≡ refused r at
  unfolding tail records
  tail_broken r q = ap (λ f. followed f at (λ k. records (length (drop at bs)) (at + k) (drop k (drop at bs)))) q

  pub tail_first : (c : Command) (k : ℕ) → front (drop at bs) ≡ first c k → tail bs at ≡ after c (tail bs (at + k))
  unfolding tail records
  tail_first c k q =
      let w = front_within (drop at bs) c k q in
      let d : drop k (drop at bs) ≡ drop (at + k) bs = drop-drop k at bs in
      let l = length-drop k (drop at bs) in
      let e = ap length d in
      ap (λ f. followed f at (λ j. records (length (drop at bs)) (at + j) (drop j (drop at bs)))) q
      ∙ ap (after c)
      (ap (records (length (drop at bs)) (at + k)) d
      ∙ records_same (length (drop at bs)) (suc (length (drop (at + k) bs))) (at + k) (drop (at + k) bs) (omega (arith, w.0, w.1)) (omega arith))

pub file_tail : (bs : List ℕ) → has_version bs ≡ true → file bs ≡ tail bs 1
unfolding tail file
file_tail bs v =
    let one = some_byte bs v in
    let l = length-drop 1 bs in
    cond-true _ _ _ v ∙ records_same (length bs) (suc (length (drop 1 bs))) 1 (drop 1 bs) (omega arith) (omega arith)

pub file_none : (bs : List ℕ) → has_version bs ≡ false → file bs ≡ refused 21 0
unfolding file
file_none bs v = cond-false _ _ _ v

-- what a step of the reader tells of the front
pub step_some : (bs : List ℕ) (at m : ℕ) (c : Command) → got c m ≡ step_at bs at → (k : ℕ) × (front (drop at bs) ≡ first c k) × (m ≡ at + k)
unfolding step_at
step_some bs at m c e = by (front (drop at bs)) refl e
  where
    by : (f : Front) → front (drop at bs) ≡ f → got c m ≡ step_of f at → (k : ℕ) × (front (drop at bs) ≡ first c k) × (m ≡ at + k)
    by ended q p = absurd (let z : ◌≡◌ {A = ℕ} 0 1 = cc in omega arith)
    by (first d k) q p = (k, q ∙ ap (λ x. first x k) (sym (same_command p)), same_place p)
      where
        same_command : {x y : Command} {i j : ℕ} → got x i ≡ got y j → x ≡ y
        same_command s = cc

        same_place : {x y : Command} {i j : ℕ} → got x i ≡ got y j → i ≡ j
        same_place s = cc
    by (broken r) q p = absurd (let z : ◌≡◌ {A = ℕ} 0 1 = cc in omega arith)

pub step_none : (bs : List ℕ) (at m : ℕ) → finished m ≡ step_at bs at → front (drop at bs) ≡ ended
unfolding step_at
step_none bs at m e = by (front (drop at bs)) refl e
  where
    by : (f : Front) → front (drop at bs) ≡ f → finished m ≡ step_of f at → front (drop at bs) ≡ ended
    by ended q p = q
    by (first d k) q p = absurd (let z : ◌≡◌ {A = ℕ} 0 1 = cc in omega arith)
    by (broken r) q p = absurd (let z : ◌≡◌ {A = ℕ} 0 1 = cc in omega arith)

pub step_stop : (bs : List ℕ) (at m n p : ℕ) → stopped n p m ≡ step_at bs at → (front (drop at bs) ≡ broken n) × (p ≡ at)
unfolding step_at
step_stop bs at m n p e = by (front (drop at bs)) refl e
  where
    by : (f : Front) → front (drop at bs) ≡ f → stopped n p m ≡ step_of f at → (front (drop at bs) ≡ broken n) × (p ≡ at)
    by ended q s = absurd (let z : ◌≡◌ {A = ℕ} 0 1 = cc in omega arith)
    by (first d k) q s = absurd (let z : ◌≡◌ {A = ℕ} 0 1 = cc in omega arith)
    by (broken r) q s = (q ∙ ap broken (sym (same_number s)), same_place s)
      where
        same_number : {i j a b c d : ℕ} → stopped i a c ≡ stopped j b d → i ≡ j
        same_number t = cc

        same_place : {i j a b c d : ℕ} → stopped i a c ≡ stopped j b d → a ≡ b
        same_place t = cc

-- a step that gave a record
pub some_step : (o : Option Record) (r : Record) (m at : ℕ) (fs bs : List ℕ) → seen_record o m ≡ step_at fs at → o ≡ Some r → fs ≡ bs → got (command_of r) m ≡ step_at bs at
some_step o r m at fs bs e q s = ap (λ x. seen_record x m) (sym q) ∙ e ∙ ap (λ l. step_at l at) s

-- one that came to the end
pub none_step : (o : Option Record) (m at : ℕ) (fs bs : List ℕ) → seen_record o m ≡ step_at fs at → o ≡ None → fs ≡ bs → finished m ≡ step_at bs at
none_step o m at fs bs e q s = ap (λ x. seen_record x m) (sym q) ∙ e ∙ ap (λ l. step_at l at) s

-- commands before a verdict
abbrev pub before : List Command → Verdict → Verdict
before [] v = v
before (c ∷ cs) v = after c (before cs v)

pub before_more : (cs : List Command) (c : Command) (v : Verdict) → before (cs ++ (c ∷ [])) v ≡ before cs (after c v)
before_more [] c v = refl
before_more (d ∷ cs) c v = ap (after d) (before_more cs c v)

pub before_end : (cs : List Command) → before cs (accepted []) ≡ accepted cs
before_end [] = refl
before_end (c ∷ cs) = ap (after c) (before_end cs)

pub before_refused : (cs : List Command) (r p : ℕ) → before cs (refused r p) ≡ refused r p
before_refused [] r p = refl
before_refused (c ∷ cs) r p = ap (after c) (before_refused cs r p)

-- a count of the commands before a place
pub Counted : List ℕ → ℕ → ℕ → Type 0
Counted bs at n = (cs : List Command) × (length cs ≡ n) × (file bs ≡ before cs (tail bs at)) × (n ≤ at) × (at ≤ length bs)

pub count_start : (bs : List ℕ) → has_version bs ≡ true → Counted bs 1 0
unfolding Counted
count_start bs v = ([], refl, file_tail bs v, omega arith, some_byte bs v)

pub count_more : (bs : List ℕ) (at m n : ℕ) (c : Command) → Counted bs at n → got c m ≡ step_at bs at → Counted bs m (n + 1) × (at < m) × (m ≤ length bs)
unfolding Counted
count_more bs at m n c w e =
    let s = step_some bs at m c e in
    let k = s.0 in
    let x = front_within (drop at bs) c k s.1 in
    let d = length-drop at bs in
    let low = w.3 in
    let far : m ≤ length bs = omega (arith, x.0, x.1, s.2) in
    ((w.0 ++ (c ∷ []), length_push w.0 c ∙ ap (λ j. j + 1) w.1, w.2 ∙ ap (before w.0) (tail_first bs at c k s.1 ∙ ap (λ j. after c (tail bs j)) (sym s.2)) ∙ sym (before_more w.0 c (tail bs m)), omega (arith, x.0, s.2), far), omega (arith, x.0, s.2), far)

pub count_end : (bs : List ℕ) (at m n : ℕ) → Counted bs at n → finished m ≡ step_at bs at → (cs : List Command) × (file bs ≡ accepted cs) × (length cs ≡ n)
unfolding Counted
count_end bs at m n w e = (w.0, w.2 ∙ ap (before w.0) (tail_ended bs at (step_none bs at m e)) ∙ before_end w.0, w.1)

pub count_stop : (bs : List ℕ) (at m n r p : ℕ) → Counted bs at n → stopped r p m ≡ step_at bs at → file bs ≡ refused r p
unfolding Counted
count_stop bs at m n r p w e =
    let s = step_stop bs at m r p e in
    w.2 ∙ ap (before w.0) (tail_broken bs at r s.0) ∙ before_refused w.0 r at ∙ ap (refused r) (sym s.1)

pub count_low : (bs : List ℕ) (at n : ℕ) → Counted bs at n → n ≤ length bs
unfolding Counted
count_low bs at n w = let a = w.3 in let b = w.4 in omega arith

-- the first bytes of a file were written again
pub Again : List ℕ → ℕ → List ℕ → Type 0
Again bs at ys = (is_accepted (tail bs at) ≡ true) × (take at ys ≡ take at bs) × (length ys ≡ length bs) × (at ≤ length bs) × (length bs ≤ most_bytes)

after_accepted : (c : Command) (v : Verdict) → is_accepted (after c v) ≡ is_accepted v
after_accepted c (accepted cs) = refl
after_accepted c (refused n p) = refl

pub again_start : (bs xs ys : List ℕ) (n : ℕ) → has_version bs ≡ true → is_accepted (file bs) ≡ true → length xs ≡ length bs → Began xs n ys → (n ≡ 1) × Again bs 1 ys
unfolding Again
again_start [] xs ys n v a l b = absurd (let z = some_byte [] v in omega arith)
again_start (x ∷ bs) xs ys n v a l b =
    let p = and_parts _ _ v in
    let one : x ≡ 1 = eqb-true x 1 p.1 in
    let few = leb-true (length (x ∷ bs)) most_bytes p.0 in
    let d = length-drop 1 xs in (
      b.ends,
      (
        sym (ap is_accepted (file_tail (x ∷ bs) v)) ∙ a,
        ap (take 1) b.wrote ∙ ap (λ k. k ∷ []) (sym one),
        ap length b.wrote ∙ omega arith,
        omega arith,
        few,
      ),
    )

pub not_begun : (bs xs : List ℕ) (f : Fault) (ys : List ℕ) → has_version bs ≡ true → length xs ≡ length bs → Unbegun xs f ys → ⊥
not_begun bs xs f ys v l u = let o = some_byte bs v in let few = leb-true (length bs) most_bytes (and_parts _ _ v).0 in u.why (omega arith) (omega arith)

pub not_open : (bs : List ℕ) → is_accepted (file bs) ≡ true → has_version bs ≡ false → ⊥
not_open bs a v = false≢true (sym (ap is_accepted (file_none bs v)) ∙ a)

module _ (bs ys : List ℕ) (at : ℕ) (w : Again bs at ys) where
  pub not_stopped : (m r p : ℕ) → stopped r p m ≡ step_at bs at → ⊥
  unfolding Again
  not_stopped m r p e = let s = step_stop bs at m r p e in false≢true (sym (ap is_accepted (tail_broken bs at r s.0)) ∙ w.0)

  pub again_end : (m : ℕ) → finished m ≡ step_at bs at → ys ≡ bs
  unfolding Again
  again_end m e =
      let z : drop at bs ≡ [] = ended_nil (drop at bs) (step_none bs at m e) in
      let l : length (drop at bs) ≡ 0 = ap length z in
      let d = length-drop at bs in
      let y = w.2 in
      sym (take_all at ys (omega arith)) ∙ w.1 ∙ take_all at bs (omega arith)

  module _ (m : ℕ) (c : Command) (b : Bytes bs) (e : got c m ≡ step_at bs at) where
    reads : (k : ℕ) × (front (drop at bs) ≡ first c k) × (m ≡ at + k)
    reads = step_some bs at m c e

    has : (readable c ≡ true) × (size c ≡ reads.0)
    has = front_readable (drop at bs) c reads.0 (bytes_drop at bs b) reads.1

    within : (3 ≤ reads.0) × (reads.0 ≤ length (drop at bs))
    within = front_within (drop at bs) c reads.0 reads.1

    far : m ≤ length bs
    far = let d = length-drop at bs in omega (arith, within.1, within.0, reads.2)

    pub shorter : length bs - m < length bs - at
    shorter = omega (arith, within.0, reads.2, far)

    pub fits : at + size c ≤ room (length ys)
    unfolding Again
    fits = let d = length-drop at bs in omega (arith, within.1, within.0, reads.2, has.1, far, w.2, w.4)

    pub not_unwritten : (f : Fault) (zs : List ℕ) → Unwritten c ys at f zs → ⊥
    not_unwritten f zs u = u.why has.0 fits

    pub again_more : (n : ℕ) (zs : List ℕ) → Wrote c ys at n zs → (n ≡ m) × Again bs m zs
    unfolding Again
    again_more n zs g =
        let k = reads.0 in
        let here : record_of c ≡ take k (drop at bs) = front_back (drop at bs) c k (bytes_drop at bs b) reads.1 in
        let same : n ≡ m = omega (arith, g.ends, has.1, reads.2) in
        let la : length (take at ys) ≡ at = length-take-le at ys (omega (arith, w.2, w.3)) in
        let lr : length (record_of c) ≡ k = ap length here ∙ length-take-le k (drop at bs) within.1 in
        let lf : length (take at ys ++ record_of c) ≡ m = length-append (take at ys) (record_of c) ∙ omega (arith, la, lr, reads.2) in
        let ld = length-drop n ys in
        let whole : zs ≡ (take at ys ++ record_of c) ++ drop n ys = g.wrote ∙ sym (append_assoc (take at ys) (record_of c) (drop n ys)) in (
          same,
          (
            sym (ap is_accepted (tail_first bs at c k reads.1 ∙ ap (λ j. after c (tail bs j)) (sym reads.2)) ∙ after_accepted c (tail bs m)) ∙ w.0,
            ap (take m) whole ∙ take_at (take at ys ++ record_of c) (drop n ys) m lf
                ∙ ap₂ (λ p q. p ++ q) w.1 here ∙ sym (take-add at k bs) ∙ ap (λ j. take j bs) (sym reads.2),
            ap length whole ∙ length-append (take at ys ++ record_of c) (drop n ys) ∙ omega (arith, lf, ld, same, far, w.2),
            far,
            w.4,
          ),
        )

-- a file that was written again is its commands' own
verdict_is : (v : Verdict) → is_accepted v ≡ true → (cs : List Command) × (v ≡ accepted cs)
verdict_is (accepted cs) e = (cs, refl)
verdict_is (refused n p) e = absurd (false≢true e)

pub rewrote : (bs xs zs : List ℕ) → Bytes bs → is_accepted (file bs) ≡ true → length bs ≤ length xs → zs ≡ bs → Rewrote bs xs (length bs) (zs ++ drop (length bs - 0) (drop 0 xs))
rewrote bs xs zs b a l e =
    let v = verdict_is (file bs) a in
    let own = file_back bs v.0 b v.1 in
    record { commands = v.0; says = v.1; own = own; ends = refl; wrote = ap₂ (λ p n. p ++ drop n xs) (e ∙ sym own) (omega arith) }

pub holds_accepted : (v : Verdict) (n : ℕ) → Holds v n → is_accepted v ≡ true
holds_accepted (accepted cs) n h = refl
holds_accepted (refused r p) n h = absurd h
