-- The number that bytes at a place write.
use Rattle.std.proofs.Common.{◌≡◌, ℕ, ◌+◌, ◌≤◌, List, [], ◌∷◌, length, get_or, take, drop, w16, w32, w64, ap, ◌∙◌, arith, length-drop}
use Rattle.std.specs.Int.{from_be_bytes}
use Rattle.std.specs.Int.Digits.{number_from_digits}
use Rattle.std.proofs.lemmas.List.{drop_more, length-take-le}
use Rattle.command_list.specs.Numbers.{number_at}

pub number_1 : (at : ℕ) (bs : List ℕ) → at + 1 ≤ length bs → number_at 1 at bs ≡ get_or bs at 0
unfolding number_at
number_1 at bs h = ap (λ l. number_from_digits 256 (take 1 l)) (drop_more bs at 0 (omega arith)) ∙ omega arith

two : (ds : List ℕ) → length ds ≡ 2 → from_be_bytes w16 ds ≡ number_from_digits 256 ds
two (a ∷ b ∷ []) e = omega arith
two [] e = absurd (omega arith)
two (a ∷ []) e = absurd (omega arith)
two (a ∷ b ∷ c ∷ ds) e = absurd (omega arith)

four : (ds : List ℕ) → length ds ≡ 4 → from_be_bytes w32 ds ≡ number_from_digits 256 ds
four (a ∷ b ∷ c ∷ d ∷ []) e = omega arith
four [] e = absurd (omega arith)
four (a ∷ []) e = absurd (omega arith)
four (a ∷ b ∷ []) e = absurd (omega arith)
four (a ∷ b ∷ c ∷ []) e = absurd (omega arith)
four (a ∷ b ∷ c ∷ d ∷ f ∷ ds) e = absurd (omega arith)

eight : (ds : List ℕ) → length ds ≡ 8 → from_be_bytes w64 ds ≡ number_from_digits 256 ds
eight (a ∷ b ∷ c ∷ d ∷ f ∷ g ∷ h ∷ i ∷ []) e = omega arith
eight [] e = absurd (omega arith)
eight (a ∷ []) e = absurd (omega arith)
eight (a ∷ b ∷ []) e = absurd (omega arith)
eight (a ∷ b ∷ c ∷ []) e = absurd (omega arith)
eight (a ∷ b ∷ c ∷ d ∷ []) e = absurd (omega arith)
eight (a ∷ b ∷ c ∷ d ∷ f ∷ []) e = absurd (omega arith)
eight (a ∷ b ∷ c ∷ d ∷ f ∷ g ∷ []) e = absurd (omega arith)
eight (a ∷ b ∷ c ∷ d ∷ f ∷ g ∷ h ∷ []) e = absurd (omega arith)
eight (a ∷ b ∷ c ∷ d ∷ f ∷ g ∷ h ∷ i ∷ j ∷ ds) e = absurd (omega arith)

-- a part of this width is as long
long_part : (w at : ℕ) (bs : List ℕ) → at + w ≤ length bs → length (take w (drop at bs)) ≡ w
long_part w at bs h = length-take-le w (drop at bs) (simp length-drop (omega arith))

pub number_2 : (at : ℕ) (bs ds : List ℕ) → at + 2 ≤ length bs → ds ≡ take 2 (drop at bs) → from_be_bytes w16 ds ≡ number_at 2 at bs
unfolding number_at
number_2 at bs ds h e = ap (from_be_bytes w16) e ∙ two (take 2 (drop at bs)) (long_part 2 at bs h)

pub number_4 : (at : ℕ) (bs ds : List ℕ) → at + 4 ≤ length bs → ds ≡ take 4 (drop at bs) → from_be_bytes w32 ds ≡ number_at 4 at bs
unfolding number_at
number_4 at bs ds h e = ap (from_be_bytes w32) e ∙ four (take 4 (drop at bs)) (long_part 4 at bs h)

pub number_8 : (at : ℕ) (bs ds : List ℕ) → at + 8 ≤ length bs → ds ≡ take 8 (drop at bs) → from_be_bytes w64 ds ≡ number_at 8 at bs
unfolding number_at
number_8 at bs ds h e = ap (from_be_bytes w64) e ∙ eight (take 8 (drop at bs)) (long_part 8 at bs h)
