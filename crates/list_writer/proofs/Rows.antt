-- Rows of fields laid down as bytes.
use Rattle.std.proofs.Common.{◌≡◌, ℕ, zero, suc, ◌+◌, ◌-◌, ◌*◌, ◌<◌, ◌≤◌, List, [], ◌∷◌, ◌++◌, length, get_or, take, drop, sym, refl, ap, ◌∙◌, subst, append_assoc, append-nil, add_assoc, mul-zero, zero-add, mul-suc, arith, length-append, length-drop}
use borrow.Rule.Slice.PartMut.{put_mid}
use Rattle.std.specs.List.{flat_map}
use Rattle.std.proofs.lemmas.List.{flat_map_more, take_more, drop_all, take_all, drop_at, drop-drop, take_rest, take_at}
use Rattle.command_list.specs.Numbers.{be, Field, bytes, total, Fit}
use Rattle.list_writer.specs.Writing.{Laid}

pub length_be : (w v : ℕ) → length (be w v) ≡ w
length_be zero v = refl
length_be (suc w) v = ap suc (length_be w v)

pub length_bytes : (fs : List Field) → length (bytes fs) ≡ total fs
length_bytes [] = refl
length_bytes (f ∷ fs) = length-append (be f.width f.value) (bytes fs) ∙ (λ i. length_be f.width f.value i + length_bytes fs i)

pub bytes_append : (fs gs : List Field) → bytes (fs ++ gs) ≡ bytes fs ++ bytes gs
bytes_append [] gs = refl
bytes_append (f ∷ fs) gs = ap (λ l. be f.width f.value ++ l) (bytes_append fs gs) ∙ sym (append_assoc _ (bytes fs) (bytes gs))

pub total_append : (fs gs : List Field) → total (fs ++ gs) ≡ total fs + total gs
total_append [] gs = sym (zero-add (total gs))
total_append (f ∷ fs) gs = ap (λ n. f.width + n) (total_append fs gs) ∙ sym (add_assoc f.width (total fs) (total gs))

pub fit_append : (fs gs : List Field) → Fit fs → Fit gs → Fit (fs ++ gs)
fit_append [] gs a b = b
fit_append (f ∷ fs) gs a b = (a.0, fit_append fs gs a.1 b)

-- gs written behind fs: zs is what the part from n on holds after it
pub laid_more : (fs gs : List Field) (xs ys zs : List ℕ) (n k : ℕ) → Laid fs xs ys n → n ≤ length xs → Laid gs (drop n ys) zs k → Laid (fs ++ gs) xs (take n ys ++ zs) (n + k)
laid_more fs gs xs ys zs n k a h b =
    let long : length (bytes fs) ≡ n = length_bytes fs ∙ sym a.long in
    let front : take n ys ≡ bytes fs = ap (take n) a.wrote ∙ take_at (bytes fs) (drop n xs) n long in
    let back : drop n ys ≡ drop n xs = ap (drop n) a.wrote ∙ drop_at (bytes fs) (drop n xs) n long in
    let tail : zs ≡ bytes gs ++ drop (n + k) xs = b.wrote ∙ ap (λ l. bytes gs ++ drop k l) back ∙ ap (λ l. bytes gs ++ l) (drop-drop k n xs) in
    record {
      long = (λ i. a.long i + b.long i) ∙ sym (total_append fs gs);
      wrote = (λ i. front i ++ tail i) ∙ sym (append_assoc (bytes fs) (bytes gs) (drop (n + k) xs)) ∙ ap (λ l. l ++ drop (n + k) xs) (sym (bytes_append fs gs));
      fit = fit_append fs gs a.fit b.fit;
    }

pub laid_le : (fs : List Field) (xs ys : List ℕ) (n : ℕ) → Laid fs xs ys n → n ≤ length ys
laid_le fs xs ys n a =
    let e : length ys ≡ length (bytes fs) + length (drop n xs) = ap length a.wrote ∙ length-append (bytes fs) (drop n xs) in
    omega (arith, length_bytes fs, a.long)

-- a write to the part from n on
pub put_end : (n : ℕ) (ys zs : List ℕ) → put_mid n (length ys - n) ys zs ≡ take n ys ++ zs
put_end n ys zs =
    let e : drop (length ys - n) (drop n ys) ≡ [] = drop_all (length ys - n) (drop n ys) (simp length-drop (omega arith)) in
    ap (λ l. take n ys ++ (zs ++ l)) e ∙ ap (λ l. take n ys ++ l) (append-nil zs)

pub total_entries : {X : Type 0} (f : X → List Field) (w : ℕ) → ((x : X) → total (f x) ≡ w) → (xs : List X) → total (flat_map f xs) ≡ w * length xs
total_entries f w e [] = sym (mul-zero w)
total_entries f w e (x ∷ xs) =
    let ih = total_entries f w e xs in
    let m = mul-suc w (length xs) in
    total_append (f x) (flat_map f xs) ∙ omega (arith, e x)

-- the place of the i-th entry lies within the row
pub room_entry : {X : Type 0} (f : X → List Field) (w : ℕ) → ((x : X) → total (f x) ≡ w) → (xs : List X) (i : ℕ) → i < length xs → total (flat_map f (take i xs)) + w ≤ total (flat_map f xs)
room_entry f w e [] i h = absurd (omega arith)
room_entry f w e (x ∷ xs) zero h = let a = total_append (f x) (flat_map f xs) in omega (arith, e x)
room_entry f w e (x ∷ xs) (suc i) h =
    let ih : total (flat_map f (take i xs)) + w ≤ total (flat_map f xs) = room_entry f w e xs i (omega arith) in
    let a = total_append (f x) (flat_map f xs) in
    let b = total_append (f x) (flat_map f (take i xs)) in
    omega arith

-- a row written to the part from n on, behind another
pub lay_then : (fs gs : List Field) (xs ys zs : List ℕ) (n k : ℕ) → Laid fs xs ys n → n ≤ length xs → Laid gs (take (length ys - n) (drop n ys)) zs k → Laid (fs ++ gs) xs (put_mid n (length ys - n) ys zs) (n + k)
lay_then fs gs xs ys zs n k a h b =
    subst (λ l. Laid (fs ++ gs) xs l (n + k)) (sym (put_end n ys zs))
    (laid_more fs gs xs ys zs n k a h (subst (λ l. Laid gs l zs k) (take_rest ys n) b))

pub length_part : (ys : List ℕ) (n : ℕ) → length (take (length ys - n) (drop n ys)) ≡ length ys - n
length_part ys n = ap length (take_rest ys n) ∙ length-drop n ys

pub laid_same : (fs : List Field) (xs ys : List ℕ) (n : ℕ) → total fs ≤ length xs → Laid fs xs ys n → length ys ≡ length xs
laid_same fs xs ys n h a =
    let e : length ys ≡ length (bytes fs) + length (drop n xs) = ap length a.wrote ∙ length-append (bytes fs) (drop n xs) in
    let d = length-drop n xs in
    let b = length_bytes fs in
    omega (arith, a.long)

-- what the second of two rows asks, where the first was laid
pub pair_room : (fs gs : List Field) (xs ys : List ℕ) (n : ℕ) → total (fs ++ gs) ≤ length xs → Laid fs xs ys n → total gs ≤ length (take (length ys - n) (drop n ys))
pair_room fs gs xs ys n h a =
    let t = total_append fs gs in
    let s = laid_same fs xs ys n (omega arith) a in
    let p = length_part ys n in
    omega (arith, a.long)

pub joined_next : {X : Type 0} (f : X → List Field) (xs : List X) (i : ℕ) (x : X) → i < length xs → x ≡ get_or xs i x → flat_map f (take i xs) ++ f x ≡ flat_map f (take (i + 1) xs)
joined_next f xs i x h e = flat_map_more f [] (take i xs) x ∙ ap (flat_map f) (ap (λ y. take i xs ++ (y ∷ [])) e ∙ sym (take_more xs i x h))

-- a loop that lays entries down, one turn on
pub entry_again : {X : Type 0} (f : X → List Field) (w : ℕ) → ((x : X) → total (f x) ≡ w) → (row : List X) (i : ℕ) (x : X) (xs ys zs : List ℕ) (n k : ℕ) → i < length row → x ≡ get_or row i x → total (flat_map f row) ≤ length xs →
    Laid (flat_map f (take i row)) xs ys n → Laid (f x) (take (length ys - n) (drop n ys)) zs k →
    Laid (flat_map f (take (i + 1) row)) xs (put_mid n (length ys - n) ys zs) (n + k) × (n + k ≤ length (put_mid n (length ys - n) ys zs))
entry_again f w e row i x xs ys zs n k h is t a b =
    let room = room_entry f w e row i h in
    let all = subst (λ l. Laid l xs (put_mid n (length ys - n) ys zs) (n + k)) (joined_next f row i x h is) (lay_then (flat_map f (take i row)) (f x) xs ys zs n k a (omega (arith, a.long)) b) in
    (all, laid_le _ _ _ _ all)

-- what an entry asks in that loop
pub entry_room : {X : Type 0} (f : X → List Field) (w : ℕ) → ((x : X) → total (f x) ≡ w) → (row : List X) (i : ℕ) (xs ys : List ℕ) (n : ℕ) → i < length row → total (flat_map f row) ≤ length xs → length ys ≡ length xs →
    Laid (flat_map f (take i row)) xs ys n → w ≤ length (take (length ys - n) (drop n ys))
entry_room f w e row i xs ys n h t s a = let room = room_entry f w e row i h in rw (take_rest ys n) (simp length-drop (omega (arith, a.long)))

pub entry_all : {X : Type 0} (f : X → List Field) (row : List X) (i : ℕ) (xs ys : List ℕ) (n : ℕ) → length row ≤ i → Laid (flat_map f (take i row)) xs ys n → Laid (flat_map f row) xs ys n
entry_all f row i xs ys n h a = subst (λ l. Laid (flat_map f l) xs ys n) (take_all i row h) a
