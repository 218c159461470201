-- Lists of commands, one command on.
use Rattle.std.proofs.Common.{◌≡◌, ℕ, zero, suc, ◌+◌, ◌-◌, ◌<◌, ◌≤◌, true, false, List, [], ◌∷◌, ◌++◌, map, length, get_or, take, drop, sym, refl, ap, ◌∙◌, subst, ap₂, append_assoc, arith, length-append}
use Rattle.std.specs.List.{flat_map}
use Rattle.std.proofs.lemmas.List.{take_more, take_all, take_at, drop_at, drop-drop, flat_map_more, length-drop, take-append-drop, get_or-map, length-map}
use Rattle.std.proofs.lemmas.Bool.{and_parts, and_from, false≢true}
use Rattle.command_list.specs.declared.fault.Fault.{Fault}
use Rattle.command_list.specs.Seen.{Given}
use Rattle.command_list.specs.Commands.{Command, record_of, size, readable, framed, code_of, fields}
use Rattle.command_list.specs.Files.{most_bytes, encoded, file, accepted}
use Rattle.command_list.specs.Seen.{given_command}
use Rattle.list_file.specs.Passing.{all_readable, Listed}
use Rattle.list_writer.specs.Writing.{Began, Wrote, Unwritten}
use Rattle.list_writer.proofs.Rows.{length_bytes}

length_record : (c : Command) → length (record_of c) ≡ size c
length_record c = length_bytes (framed (code_of c) (fields c)) ∙ omega arith

encoded_push : (cs : List Command) (c : Command) → encoded (cs ++ (c ∷ [])) ≡ encoded cs ++ record_of c
encoded_push cs c = ap (λ l. 1 ∷ l) (sym (flat_map_more record_of [] cs c))

pub length_push : (cs : List Command) (c : Command) → length (encoded (cs ++ (c ∷ []))) ≡ length (encoded cs) + size c
length_push cs c = ap length (encoded_push cs c) ∙ length-append (encoded cs) (record_of c) ∙ ap (λ n. length (encoded cs) + n) (length_record c)

pub readable_push : (cs : List Command) (c : Command) → all_readable cs ≡ true → readable c ≡ true → all_readable (cs ++ (c ∷ [])) ≡ true
readable_push [] c h r = and_from _ _ r refl
readable_push (d ∷ cs) c h r = let p = and_parts _ _ h in and_from _ _ p.0 (readable_push cs c p.1 r)

-- the front of a list of commands
pub length_front : (cs : List Command) (i : ℕ) → length (encoded (take i cs)) ≤ length (encoded cs)
length_front cs i =
    let e = ap encoded (take-append-drop i cs) in
    omega (arith, ap length e, both (take i cs) (drop i cs))
  where
    both : (xs ys : List Command) → length (encoded (xs ++ ys)) ≡ length (encoded xs) + length (flat_map record_of ys)
    both [] ys = omega arith
    both (x ∷ xs) ys =
        let a = length-append (record_of x) (flat_map record_of (xs ++ ys)) in
        let b = length-append (record_of x) (flat_map record_of xs) in
        let ih = both xs ys in
        omega arith

pub readable_front : (cs : List Command) (i : ℕ) (d : Command) → all_readable cs ≡ true → i < length cs → readable (get_or cs i d) ≡ true
readable_front [] i d h l = absurd (omega arith)
readable_front (c ∷ cs) zero d h l = (and_parts _ _ h).0
readable_front (c ∷ cs) (suc i) d h l = readable_front cs i d (and_parts _ _ h).1 (omega arith)

-- the commands before a place were written
pub record Sofar (cs : List Command) (i : ℕ) (xs : List ℕ) (n : ℕ) (ys : List ℕ) : Type 0 where
  pub ends : n ≡ length (encoded (take i cs))
  pub wrote : ys ≡ encoded (take i cs) ++ drop n xs
  pub reads : file (take n ys) ≡ accepted (take i cs)

-- a list that was begun
pub sofar_start : (cs : List Command) (xs ys : List ℕ) (n : ℕ) → Began xs n ys → Sofar cs 0 ys n ys
sofar_start cs xs ys n b = record { ends = b.ends; wrote = b.wrote ∙ ap (λ l. 1 ∷ l) (sym (ap (drop 1) b.wrote)) ∙ ap (λ k. 1 ∷ drop k ys) (sym b.ends); reads = b.reads }

pub began_length : (xs ys : List ℕ) (n : ℕ) → Began xs n ys → length ys ≡ length xs
began_length xs ys n b = let d = length-drop 1 xs in let s = b.some in ap length b.wrote ∙ omega arith

module _ (cs : List Command) (i : ℕ) (d : Command) (xs ys : List ℕ) (n : ℕ) (s : Sofar cs i xs n ys) (h : i < length cs) (l : length (encoded cs) ≤ length xs) where
  abbrev next : Command
  next = get_or cs i d

  long : length (encoded (take (i + 1) cs)) ≡ n + size next
  long = ap (λ p. length (encoded p)) (take_more cs i d h) ∙ length_push (take i cs) next ∙ ap (λ k. k + size next) (sym s.ends)

  same_length : length ys ≡ length xs
  same_length =
      let a = ap length s.wrote ∙ length-append (encoded (take i cs)) (drop n xs) in
      let b = length-drop n xs in
      let f = length_front cs i in
      omega (arith, s.ends)

  pub fits : n + size next ≤ length ys
  fits = let f = length_front cs (i + 1) in omega (arith, long, same_length)

  pub no_refusal : (f : Fault) (zs : List ℕ) → all_readable cs ≡ true → length xs ≤ most_bytes → Unwritten next ys n f zs → ⊥
  no_refusal f zs r few u = u.why (readable_front cs i d r h) (omega (arith, fits, same_length))

  pub sofar_more : (m : ℕ) (zs : List ℕ) → Wrote next ys n m zs → Sofar cs (i + 1) xs m zs
  sofar_more m zs w =
      let le : length (encoded (take i cs)) ≡ n = sym s.ends in
      let f = fits in
      let same = same_length in
      let front : take n ys ≡ encoded (take i cs) = ap (take n) s.wrote ∙ take_at (encoded (take i cs)) (drop n xs) n le in
      let back : drop m ys ≡ drop m xs =
      ap (λ k. drop k ys) w.ends ∙ sym (drop-drop (size next) n ys) ∙ ap (drop (size next)) (ap (drop n) s.wrote ∙ drop_at (encoded (take i cs)) (drop n xs) n le) ∙ drop-drop (size next) n xs ∙ ap (λ k. drop k xs) (sym w.ends) in
      record {
        ends = w.ends ∙ sym long;
        wrote =
            w.wrote ∙ ap₂ (λ p q. p ++ (record_of next ++ q)) front back
            ∙ sym (append_assoc (encoded (take i cs)) (record_of next) (drop m xs))
            ∙ ap (λ p. p ++ drop m xs) (sym (encoded_push (take i cs) next) ∙ ap encoded (sym (take_more cs i d h)));
        reads = w.reads (take i cs) s.reads ∙ ap accepted (sym (take_more cs i d h));
      }

pub sofar_all : (cs : List Command) (i : ℕ) (xs ys zs : List ℕ) (m n : ℕ) → Began xs m ys → length cs ≤ i → Sofar cs i ys n zs → Listed cs xs n zs
sofar_all cs i xs ys zs m n b h s =
    let e : take i cs ≡ cs = take_all i cs h in
    let one : n ≡ 1 + (n - 1) = let q = s.ends in omega arith in
    let back : drop n ys ≡ drop n xs = ap (λ k. drop k ys) one ∙ sym (drop-drop (n - 1) 1 ys) ∙ ap (λ l. drop (n - 1) (drop 1 l)) b.wrote ∙ drop-drop (n - 1) 1 xs ∙ ap (λ k. drop k xs) (sym one) in
    record { ends = s.ends ∙ ap (λ p. length (encoded p)) e; wrote = s.wrote ∙ ap₂ (λ p q. encoded p ++ q) e back; reads = s.reads ∙ ap accepted e }

-- the same of commands that are given to be written
module _ (gs : List Given) (i : ℕ) (d : Given) (h : i < length gs) where
  given_next : get_or (map given_command gs) i (given_command d) ≡ given_command (get_or gs i d)
  given_next = get_or-map given_command gs i d (given_command d) h

  given_within : i < length (map given_command gs)
  given_within = simp length-map h

  pub given_refusal : (xs ys : List ℕ) (n : ℕ) → Sofar (map given_command gs) i xs n ys → length (encoded (map given_command gs)) ≤ length xs → (f : Fault) (zs : List ℕ) → all_readable (map given_command gs) ≡ true → length xs ≤ most_bytes → Unwritten (given_command (get_or gs i d)) ys n f zs → ⊥
  given_refusal xs ys n s l f zs r few u = no_refusal (map given_command gs) i (given_command d) xs ys n s given_within l f zs r few (subst (λ c. Unwritten c ys n f zs) (sym given_next) u)

  pub given_more : (xs ys : List ℕ) (n : ℕ) → Sofar (map given_command gs) i xs n ys → length (encoded (map given_command gs)) ≤ length xs → (m : ℕ) (zs : List ℕ) → Wrote (given_command (get_or gs i d)) ys n m zs → Sofar (map given_command gs) (i + 1) xs m zs
  given_more xs ys n s l m zs w = sofar_more (map given_command gs) i (given_command d) xs ys n s given_within l m zs (subst (λ c. Wrote c ys n m zs) (sym given_next) w)

  -- sizes so far
  front_more : take (i + 1) (map given_command gs) ≡ take i (map given_command gs) ++ (given_command (get_or gs i d) ∷ [])
  front_more = take_more (map given_command gs) i (given_command d) given_within ∙ ap (λ c. take i (map given_command gs) ++ (c ∷ [])) given_next

  pub size_more : (t k : ℕ) → t ≡ length (encoded (take i (map given_command gs))) → k ≡ size (given_command (get_or gs i d)) → t + k ≡ length (encoded (take (i + 1) (map given_command gs)))
  size_more t k e q = ap₂ (λ x y. x + y) e q ∙ sym (length_push (take i (map given_command gs)) (given_command (get_or gs i d))) ∙ ap (λ p. length (encoded p)) (sym front_more)

  pub readable_more : all_readable (take i (map given_command gs)) ≡ true → readable (given_command (get_or gs i d)) ≡ true → all_readable (take (i + 1) (map given_command gs)) ≡ true
  readable_more a r = ap all_readable front_more ∙ readable_push (take i (map given_command gs)) (given_command (get_or gs i d)) a r

  pub too_many : (t k : ℕ) → t ≡ length (encoded (take i (map given_command gs))) → k ≡ size (given_command (get_or gs i d)) → most_bytes < t + k → length (encoded (map given_command gs)) ≤ most_bytes → ⊥
  too_many t k e q far few = let f = length_front (map given_command gs) (i + 1) in let s = size_more t k e q in omega arith

  pub not_all : readable (given_command (get_or gs i d)) ≡ false → all_readable (map given_command gs) ≡ true → ⊥
  not_all n a = false≢true (sym n ∙ ap readable (sym given_next) ∙ readable_front (map given_command gs) i (given_command d) a given_within)
