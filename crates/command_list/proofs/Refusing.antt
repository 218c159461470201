-- Laws of checks: what holds where none of them fails, and which item fails first.
use Rattle.std.proofs.Common.{◌≡◌, ℕ, zero, suc, ◌+◌, ◌<◌, Bool, true, false, List, [], ◌∷◌, length, get_or, is_some, Some, None, Option, sym, refl, ap, ◌∙◌, subst, ⊎_elim, arith}
use Rattle.std.proofs.lemmas.Bool.{true≢false, cond-true, cond-false, cases_Bool}
use Rattle.command_list.specs.declared.fault.Fault.{Fault}
use Rattle.command_list.specs.declared.fault.Number.{Number}
use Rattle.command_list.specs.Seen.{IsFault, number_of}
use Rattle.command_list.specs.Refusals.{Why, fault, why_of, unless, before, fault_at, first_from, AllPass, First, FirstOf}

pub some≢none : {A : Type 0} (x : A) → Some x ≡ None → ⊥
some≢none x e = true≢false (ap is_some e)

-- ---- checks that do not fail

pub before_none : (a b : Option Why) → before a b ≡ None → (a ≡ None) × (b ≡ None)
before_none None b e = (refl, e)
before_none (Some w) b e = absurd (some≢none w e)

pub unless_none : (b : Bool) (w : Why) → unless b w ≡ None → b ≡ true
unless_none true w e = refl
unless_none false w e = absurd (some≢none w e)

pub fault_none : (n : ℕ) (o : Option ℕ) → fault_at n o ≡ None → o ≡ None
fault_none n None e = refl
fault_none n (Some i) e = absurd (some≢none (fault n i) e)

-- ---- a fault by its number and its place

pub fault_by : (f : Fault) (n p : ℕ) → IsFault f n p → why_of f ≡ fault n p
fault_by f n p e = λ i. record { number = e.0 i; place = e.1 i }

pub fault_is : (f : Fault) (n : Number) (p : ℕ) → (f.number ≡ n) × (f.place ≡ p) → why_of f ≡ fault (number_of n) p
fault_is f n p e = fault_by f (number_of n) p (ap number_of e.0, e.1)

-- ---- the first item that fails

pub first_none : {X : Type 0} (i : ℕ) (good : X → Bool) (xs : List X) → first_from i good xs ≡ None → AllPass good xs
first_none i good [] e k d h = absurd (omega arith)
first_none {X} i good (x ∷ xs) e k d h =
    ⊎_elim
    (λ t. at k h (first_none (i + 1) good xs (sym (cond-true (good x) (first_from (i + 1) good xs) (Some i) t) ∙ e)) t)
    (λ f. absurd (some≢none i (sym (cond-false (good x) (first_from (i + 1) good xs) (Some i) f) ∙ e)))
    (cases_Bool (good x))
  where
    at : (k : ℕ) → k < length (x ∷ xs) → AllPass good xs → good x ≡ true → good (get_or (x ∷ xs) k d) ≡ true
    at zero h a t = t
    at (suc k) h a t = a k d (omega arith)

some_is : (i n : ℕ) → Some i ≡ Some n → n ≡ i
some_is i n e = cc

first_later : {X : Type 0} (good : X → Bool) (x : X) (xs : List X) (k : ℕ) → good x ≡ true → First good xs k → First good (x ∷ xs) (suc k)
first_later {X} good x xs k t f = record { within = omega (arith, f.within); fails = f.fails; earlier = at }
  where
    at : (j : ℕ) (d : X) → j < suc k → good (get_or (x ∷ xs) j d) ≡ true
    at zero d h = t
    at (suc j) d h = f.earlier j d (omega arith)

first_some : {X : Type 0} (i : ℕ) (good : X → Bool) (xs : List X) (n : ℕ) → first_from i good xs ≡ Some n → (k : ℕ) × (n ≡ i + k) × First good xs k
first_some i good [] n e = absurd (some≢none n (sym e))
first_some i good (x ∷ xs) n e =
    ⊎_elim
    (λ t. let ih = first_some (i + 1) good xs n (sym (cond-true (good x) (first_from (i + 1) good xs) (Some i) t) ∙ e) in
    (suc ih.0, omega (arith, ih.1), first_later good x xs ih.0 t ih.2))
    (λ f. (0, omega (arith, some_is i n (sym (cond-false (good x) (first_from (i + 1) good xs) (Some i) f) ∙ e)), record { within = omega arith; fails = λ d. f; earlier = λ k d h. absurd (omega arith) }))
    (cases_Bool (good x))

pub first_at : {X : Type 0} (good : X → Bool) (xs : List X) (n : ℕ) → first_from 0 good xs ≡ Some n → First good xs n
first_at good xs n e = let s = first_some 0 good xs n e in subst (First good xs) (omega (arith, s.1)) s.2

pub first_law : {X : Type 0} (good : X → Bool) (xs : List X) → FirstOf good xs (first_from 0 good xs)
first_law {X} good xs = by (first_from 0 good xs) refl
  where
    by : (o : Option ℕ) → first_from 0 good xs ≡ o → FirstOf good xs o
    by None e = first_none 0 good xs e
    by (Some i) e = first_at good xs i e
