-- Rows of one width, one behind the other: how many there are, and what stands at each place.
use Rattle.std.proofs.Common.{◌≡◌, ℕ, zero, suc, ◌+◌, ◌*◌, ◌/◌, ◌<◌, ◌≤◌, ◌&&◌, true, List, [], ◌∷◌, length, is_some, Some, None, Option, sym, refl, ap, ◌∙◌, mul-zero, mul-suc, arith}
use Rattle.std.specs.List.{slice_get, list_all, range_with_len}
use Rattle.std.proofs.lemmas.Option.{none-some, same_Some, slice_get_past}
use Rattle.command_list.specs.declared.command.Barrier.{Barrier}
use Rattle.command_list.specs.Numbers.{number_at, numbers}
use Rattle.command_list.specs.Commands.{entry_widths, entry_width}
use Rattle.command_list.specs.Decoding.{repeated, type_of, barriers, then}
use Rattle.command_list.specs.Seen.{every, entry_at, entry_of, entry_numbers}

pub then_is : {A B : Type 0} (o : Option A) (f : A → Option B) (b : B) → then o f ≡ Some b
    → (a : A) × (o ≡ Some a) × (f a ≡ Some b)
then_is None f b e = absurd (none-some _ e)
then_is (Some a) f b e = (a, refl, e)

pub length_numbers : (ws : List ℕ) (at : ℕ) (bs : List ℕ) → length (numbers ws at bs) ≡ length ws
length_numbers [] at bs = refl
length_numbers (w ∷ ws) at bs = ap suc (length_numbers ws (at + w) bs)

pub length_repeated : (n w : ℕ) → length (repeated n (w ∷ [])) ≡ n
length_repeated zero w = refl
length_repeated (suc n) w = ap suc (length_repeated n w)

pub length_every : (w : ℕ) (bs : List ℕ) → length (every w bs) ≡ length bs / w
length_every w bs =
    length_numbers (repeated (length bs / w) (w ∷ [])) 0 bs ∙ length_repeated (length bs / w) w

-- as many barriers as entries
pub count_barriers : (n at : ℕ) (bs : List ℕ) (es : List Barrier)
    → barriers (numbers (repeated n entry_widths) at bs) ≡ Some es → length es ≡ n
count_barriers zero at bs es e = ap length (same_Some _ _ (sym e))
count_barriers (suc n) at bs es e =
    let a = then_is (type_of (number_at 1 at bs)) _ es e in
    let b =
    then_is (barriers (numbers (repeated n entry_widths) (at + 1 + 4 + 4 + 4 + 4) bs)) _ es a.2 in
    let same = same_Some _ _ b.2 in
    sym (ap length same) ∙ ap suc (count_barriers n (at + 1 + 4 + 4 + 4 + 4) bs b.0 b.1)

-- one of some numbers of equal widths
nth_run : (w n i at : ℕ) (bs : List ℕ) → i < n
    → slice_get (numbers (repeated n (w ∷ [])) at bs) i ≡ Some (number_at w (at + w * i) bs)
nth_run w zero i at bs h = absurd (omega arith)
nth_run w (suc n) zero at bs h =
    ap (λ k. Some (number_at w k bs)) (let z = mul-zero w in omega arith)
nth_run w (suc n) (suc i) at bs h =
    nth_run w n i (at + w) bs (omega arith)
    ∙ ap (λ k. Some (number_at w k bs)) (let m = mul-suc w i in omega arith)

pub nth_every : (w i : ℕ) (bs : List ℕ) → i < length bs / w
    → Some (number_at w (w * i) bs) ≡ slice_get (every w bs) i
nth_every w i bs h =
    sym (nth_run w (length bs / w) i 0 bs h ∙ ap (λ k. Some (number_at w k bs)) (omega arith))

pub past_every : (w i : ℕ) (bs : List ℕ) → length bs / w ≤ i → None ≡ slice_get (every w bs) i
past_every w i bs h = sym (slice_get_past (every w bs) i (let l = length_every w bs in omega arith))

-- one of some entries
nth_entries : (n i at : ℕ) (bs : List ℕ) (es : List Barrier) → i < n
    → barriers (numbers (repeated n entry_widths) at bs) ≡ Some es
    → entry_at (at + entry_width * i) bs ≡ slice_get es i
nth_entries zero i at bs es h e = absurd (omega arith)
nth_entries (suc n) zero at bs es h e =
    let a = then_is (type_of (number_at 1 at bs)) _ es e in
    let b =
    then_is (barriers (numbers (repeated n entry_widths) (at + 1 + 4 + 4 + 4 + 4) bs)) _ es a.2 in
    let p5 : number_at 4 (at + 1 + 4) bs ≡ number_at 4 (at + 5) bs =
    ap (λ k. number_at 4 k bs) (omega arith) in
    let p9 : number_at 4 (at + 1 + 4 + 4) bs ≡ number_at 4 (at + 9) bs =
    ap (λ k. number_at 4 k bs) (omega arith) in
    let p13 : number_at 4 (at + 1 + 4 + 4 + 4) bs ≡ number_at 4 (at + 13) bs =
    ap (λ k. number_at 4 k bs) (omega arith) in
    ap (λ k. entry_at k bs) (omega arith)
    ∙ ap (λ o. then o (entry_of at bs)) a.1
    ∙ (λ i. Some (record {
      kind = a.0;
      resource = number_at 4 (at + 1) bs;
      subresource = sym p5 i;
      before = sym p9 i;
      after = sym p13 i;
    }))
    ∙ ap (λ l. slice_get l 0) (same_Some _ _ b.2)
nth_entries (suc n) (suc i) at bs es h e =
    let a = then_is (type_of (number_at 1 at bs)) _ es e in
    let b =
    then_is (barriers (numbers (repeated n entry_widths) (at + 1 + 4 + 4 + 4 + 4) bs)) _ es a.2 in
    ap (λ k. entry_at k bs) (omega arith)
    ∙ nth_entries n i (at + 1 + 4 + 4 + 4 + 4) bs b.0 (omega arith) b.1
    ∙ ap (λ l. slice_get l (suc i)) (same_Some _ _ b.2)

pub count_every : (w : ℕ) (bs : List ℕ) (xs : List ℕ) → Some (every w bs) ≡ Some xs
    → length bs / w ≡ length xs
count_every w bs xs e = sym (length_every w bs) ∙ ap length (same_Some _ _ e)

pub turn_every : (w : ℕ) (bs : List ℕ) (xs : List ℕ) (i : ℕ) → Some (every w bs) ≡ Some xs
    → i < length bs / w → Some (number_at w (w * i) bs) ≡ slice_get xs i
turn_every w bs xs i e h = nth_every w i bs h ∙ ap (λ l. slice_get l i) (same_Some _ _ e)

pub end_every : (w : ℕ) (bs : List ℕ) (xs : List ℕ) (i : ℕ) → Some (every w bs) ≡ Some xs
    → length bs / w ≤ i → None ≡ slice_get xs i
end_every w bs xs i e h = past_every w i bs h ∙ ap (λ l. slice_get l i) (same_Some _ _ e)

pub count_entries : (bs : List ℕ) (xs : List Barrier) → barriers (entry_numbers bs) ≡ Some xs
    → length bs / entry_width ≡ length xs
count_entries bs xs e = sym (count_barriers (length bs / entry_width) 0 bs xs e)

pub turn_entries : (bs : List ℕ) (xs : List Barrier) (i : ℕ) → barriers (entry_numbers bs) ≡ Some xs
    → i < length bs / entry_width → entry_at (entry_width * i) bs ≡ slice_get xs i
turn_entries bs xs i e h =
    ap (λ k. entry_at k bs) (omega arith) ∙ nth_entries (length bs / entry_width) i 0 bs xs h e

pub end_entries : (bs : List ℕ) (xs : List Barrier) (i : ℕ) → barriers (entry_numbers bs) ≡ Some xs
    → length bs / entry_width ≤ i → None ≡ slice_get xs i
end_entries bs xs i e h = sym (slice_get_past xs i (let l = count_entries bs xs e in omega arith))

all_some : {A : Type 0} (f : ℕ → A) (ns : List ℕ) → list_all (λ i. is_some (Some (f i))) ns ≡ true
all_some f [] = refl
all_some f (n ∷ ns) = all_some f ns

pub each_every : (w : ℕ) (bs : List ℕ)
    → list_all (λ i. is_some (Some (number_at w (w * i) bs))) (range_with_len 0 (length bs / w))
    ≡ is_some (Some (every w bs))
each_every w bs = all_some (λ i. number_at w (w * i) bs) (range_with_len 0 (length bs / w))

some_then : {A B : Type 0} (o : Option A) (f : A → B)
    → is_some (then o (λ a. Some (f a))) ≡ is_some o
some_then None f = refl
some_then (Some a) f = refl

-- an entry is one where its type is known
pub entry_typed : (at : ℕ) (bs : List ℕ)
    → is_some (type_of (number_at 1 at bs)) ≡ is_some (entry_at at bs)
entry_typed at bs = sym (some_then (type_of (number_at 1 at bs)) _)

some_both : {A B C : Type 0} (o : Option A) (p : Option B) (f : A → B → C)
    → is_some (then o (λ a. then p (λ b. Some (f a b)))) ≡ (is_some o && is_some p)
some_both None p f = refl
some_both (Some a) None f = refl
some_both (Some a) (Some b) f = refl

each_from : (n i : ℕ) (bs : List ℕ)
    → list_all (λ j. is_some (entry_at (entry_width * j) bs)) (range_with_len i n)
    ≡ is_some (barriers (numbers (repeated n entry_widths) (entry_width * i) bs))
each_from zero i bs = refl
each_from (suc n) i bs =
    let rest : List ℕ =
    numbers (repeated n entry_widths) (entry_width * i + 1 + 4 + 4 + 4 + 4) bs in
    let far : entry_width * (i + 1) ≡ entry_width * i + 1 + 4 + 4 + 4 + 4 = omega arith in
    ap (λ t. is_some (entry_at (entry_width * i) bs) && t)
    (each_from n (i + 1) bs
    ∙ ap (λ k. is_some (barriers (numbers (repeated n entry_widths) k bs))) far)
    ∙ ap (λ t. t && is_some (barriers rest))
    (some_then (type_of (number_at 1 (entry_width * i) bs)) _)
    ∙ sym (some_both (type_of (number_at 1 (entry_width * i) bs)) (barriers rest) _)

pub each_entry : (bs : List ℕ)
    → list_all (λ i. is_some (entry_at (entry_width * i) bs))
    (range_with_len 0 (length bs / entry_width))
    ≡ is_some (barriers (entry_numbers bs))
each_entry bs = each_from (length bs / entry_width) 0 bs
