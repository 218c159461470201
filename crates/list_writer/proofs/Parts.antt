-- Operands laid down as the bytes that they were read from.
use Rattle.std.proofs.Common.{mul-zero, ◌≡◌, ℕ, ◌+◌, ◌*◌, ◌/◌, ◌^◌, ◌<◌, ◌≤◌, List, [], ◌∷◌, ◌++◌, length, get_or, take, drop, Some, None, Option, unwrap_or, sym, refl, ap, ◌∙◌, subst, arith}
use Rattle.std.specs.List.{flat_map}
use Rattle.std.specs.Int.Digits.{number_from_digits}
use Rattle.std.proofs.lemmas.List.{length-take-le, length-drop}
use Rattle.command_list.specs.Numbers.{Field, total, Fit, widths, values, number_at, numbers}
use Rattle.list_writer.specs.Writing.{Laid}
use Rattle.list_writer.proofs.Rows.{total_entries}
use Rattle.std.proofs.Math.Nat.{mul-div-le}
use Rattle.list_writer.proofs.Bytewise.{Bytes, bytes_take, bytes_drop, bytes_numbers, number_small}

-- numbers that were read fit their widths
number_fits : (w at : ℕ) (bs : List ℕ) → Bytes bs → at + w ≤ length bs → number_at w at bs < 256 ^ w
unfolding number_at
number_fits w at bs h l =
    let long : length (take w (drop at bs)) ≡ w = length-take-le w (drop at bs) (simp length-drop (omega arith)) in
    subst (λ k. number_from_digits 256 (take w (drop at bs)) < 256 ^ k) long (number_small (take w (drop at bs)) (bytes_take w (drop at bs) (bytes_drop at bs h)))

fit_numbers : (fs : List Field) (at : ℕ) (bs : List ℕ) → Bytes bs → at + total fs ≤ length bs → values fs ≡ numbers (widths fs) at bs → Fit fs
fit_numbers [] at bs h l e = tt
fit_numbers (f ∷ fs) at bs h l e = (
  subst (λ v. v < 256 ^ f.width) (sym (ap (λ vs. get_or vs 0 0) e)) (number_fits f.width at bs h (omega arith)),
  fit_numbers fs (at + f.width) bs h (omega arith) (ap (drop 1) e),
)

-- entries that were read, laid down as the bytes that they were read from
pub laid_read : (fs : List Field) (p xs : List ℕ) (n : ℕ) → Bytes p → n ≡ total fs → n ≤ length p → values fs ≡ numbers (widths fs) 0 p → Laid fs xs (take n p ++ drop n xs) n
laid_read fs p xs n b t l e = record {
  long = t;
  wrote = ap (λ z. z ++ drop n xs) (ap (λ k. take k p) t ∙ sym (bytes_numbers fs 0 p b (omega arith) e));
  fit = fit_numbers fs 0 p b (omega arith) e;
}

-- the rows of some bytes lie within them
pub rows_within : {T : Type 0} (w : ℕ) (o : Option (List T)) (l : ℕ) → ((xs : List T) → o ≡ Some xs → l / w ≡ length xs) → w * length (unwrap_or o []) ≤ l
rows_within w None l h = let z = mul-zero w in omega arith
rows_within w (Some xs) l h = subst (λ k. w * k ≤ l) (h xs refl) (mul-div-le l w)

-- rows that were read, or none of them, laid down as the front of their bytes
pub rows_laid : {T : Type 0} (row : T → List Field) (w : ℕ) → ((x : T) → total (row x) ≡ w) → (o : Option (List T)) (p xs ys : List ℕ) (n : ℕ) → Bytes p
    → ((ts : List T) → o ≡ Some ts → values (flat_map row ts) ≡ numbers (widths (flat_map row ts)) 0 p)
    → n ≡ w * length (unwrap_or o []) → n ≤ length p → ys ≡ take n p ++ drop n xs → Laid (flat_map row (unwrap_or o [])) xs ys n
rows_laid row w even o p xs ys n b e q l s =
    let t : n ≡ total (flat_map row (unwrap_or o [])) = q ∙ sym (total_entries row w even (unwrap_or o [])) in
    subst (λ z. Laid (flat_map row (unwrap_or o [])) xs z n) (sym s) (laid_read (flat_map row (unwrap_or o [])) p xs n b t l (read row o e))
  where
    read : {U : Type 0} (row : U → List Field) (o : Option (List U)) → ((ts : List U) → o ≡ Some ts → values (flat_map row ts) ≡ numbers (widths (flat_map row ts)) 0 p) → values (flat_map row (unwrap_or o [])) ≡ numbers (widths (flat_map row (unwrap_or o []))) 0 p
    read row None h = refl
    read row (Some ts) h = h ts refl
