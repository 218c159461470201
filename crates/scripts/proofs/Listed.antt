-- The text of a list, row by row.
use Rattle.std.proofs.Common.{◌≡◌, ℕ, ◌+◌, ◌<◌, List, ◌++◌, Some, None, length, take, flat_map, Option, true, is_some, inl, inr, arith, refl, sym}
use Rattle.std.specs.List.{slice_get}
use Rattle.std.specs.Fmt.{HasWritten}
use Rattle.std.specs.declared.fmt.Formatter.{Formatter}
use Rattle.std.proofs.Output.{has_written_append, has_written_of_eq}
use Rattle.std.specs.Option.{unwrap_or}
use Rattle.std.proofs.lemmas.Option.{slice_get_cases, slice_get_within, get_or_from_slice_get}
use Rattle.std.proofs.lemmas.Grind.{common_steps}
use Rattle.command_list.specs.Numbers.{Field}
use Rattle.scripts.specs.Shown.{operands}

-- the operands of a list's first rows, and of one more
one_more : {X : Type 0} (row : X → List Field) (xs : List X) (i : ℕ) (x : X)
    → slice_get xs i ≡ Some x
    → operands (flat_map row (take i xs)) ++ operands (row x)
    ≡ operands (flat_map row (take (i + 1) xs))
one_more row xs i x e =
    let within = slice_get_within xs i x e in
    let here = get_or_from_slice_get xs i x x e in
    grind (arith, common_steps)

-- one more row was written
pub row_written : {W X : Type 0} {took : W → List ℕ → W → Type 0} {f g h : Formatter W}
    (row : X → List Field) (xs : List X) (i : ℕ) (x : X) → Some x ≡ slice_get xs i
    → HasWritten took f (operands (flat_map row (take i xs))) g
    → HasWritten took g (operands (row x)) h
    → HasWritten took f (operands (flat_map row (take (i + 1) xs))) h
row_written row xs i x e before now =
    has_written_of_eq _ _ _ _ _ (one_more row xs i x (sym e))
    (has_written_append _ _ _ _ _ _ before now)

-- there is a row before the end
pub row_there : {X : Type 0} (xs : List X) (i n : ℕ) → n ≡ length xs → i < n
    → None ≡ slice_get xs i → ⊥
row_there xs i n e h none = elim ((slice_get_cases xs i).1) [
  | inl p ↦ let here = p.2 in cc
  | inr p ↦ let past = p.0 in omega arith
]

-- a value that is there is not its default
pub not_default : {X : Type 0} (o : Option X) (d : X) → is_some o ≡ true → o ≡ Some (unwrap_or o d)
not_default None d e = cc
not_default (Some x) d e = refl
