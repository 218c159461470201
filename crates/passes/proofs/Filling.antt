-- A group's slots, filled one after the other.
use Rattle.std.proofs.Common.{◌≡◌, ℕ, ◌+◌, ◌<◌, ◌≤◌, ◌^◌, cond, ltb, Bool, true, false, List, [], ◌∷◌, map, length, Some, None, ◌⊎◌, sym, refl, ap, ◌∙◌, subst, ⊎_elim, arith}
use Rattle.std.proofs.lemmas.Bool.{ltb-true}
use Rattle.passes.specs.declared.element.RootElement.TheVariants.{DynamicUniformBuffer}
use Rattle.passes.specs.Account.{Bound, filled, filled_from}
use Rattle.passes.specs.Calls.{addresses, too_far}
use Rattle.command_list.proofs.Refusing.{some≢none}

-- what is left to fill from the slot k on makes the bound e of the bound b
pub record Filling (e : Bound) (k : ℕ) (bs os : List ℕ) (b : Bound) : Type 0 where
  pub same : length bs ≡ length os
  pub near : (i : ℕ) × (too_far i (addresses bs os) ≡ None)
  pub within : (j : ℕ) → k ≤ j → j < k + length bs → j < 64
  pub goes : e ≡ filled_from k (map DynamicUniformBuffer (addresses bs os)) b

near_first : (i x : ℕ) (xs : List ℕ) → too_far i (x ∷ xs) ≡ None → (x < 2 ^ 64) × (too_far (i + 1) xs ≡ None)
near_first i x xs e = by (ltb x (2 ^ 64)) refl e
  where
    by : (t : Bool) → ltb x (2 ^ 64) ≡ t → cond t (too_far (i + 1) xs) (Some i) ≡ None → (x < 2 ^ 64) × (too_far (i + 1) xs ≡ None)
    by true t q = (ltb-true x (2 ^ 64) t, q)
    by false t q = absurd (some≢none i q)

pub record Turn (e : Bound) (k x o : ℕ) (bs os : List ℕ) (b : Bound) : Type 0 where
  pub near : x + o < 2 ^ 64
  pub within : k < 64
  pub filling : Filling e (k + 1) bs os (filled k (DynamicUniformBuffer (x + o)) b)

pub filling_turn : (e : Bound) (k x o : ℕ) (bs os cs ps : List ℕ) (b : Bound) → (cs ≡ x ∷ bs) × (ps ≡ o ∷ os) → Filling e k cs ps b → Turn e k x o bs os b
filling_turn e k x o bs os cs ps b p f =
    let g : Filling e k (x ∷ bs) (o ∷ os) b = subst (λ c. Filling e k c (o ∷ os) b) p.0 (subst (λ y. Filling e k cs y b) p.1 f) in
    let n = near_first g.near.0 (x + o) (addresses bs os) g.near.1 in
    record {
      near = n.0;
      within = g.within k (omega arith) (omega arith);
      filling = record { same = omega (arith, g.same); near = (g.near.0 + 1, n.1); within = λ j l h. g.within j (omega arith) (omega arith); goes = g.goes };
    }

-- one slot is filled with its address
pub filling_next : (e : Bound) (k x o v : ℕ) (bs os cs ps : List ℕ) (b c : Bound) → (cs ≡ x ∷ bs) × (ps ≡ o ∷ os) → v ≡ o
    → c ≡ filled k (DynamicUniformBuffer (x + v)) b → Filling e k cs ps b → Filling e (k + 1) bs os c
filling_next e k x o v bs os cs ps b c p q r f =
    subst (λ y. Filling e (k + 1) bs os y) (sym (r ∙ ap (λ w. filled k (DynamicUniformBuffer (x + w)) b) q)) (filling_turn e k x o bs os cs ps b p f).filling

pub filling_done : (e : Bound) (k : ℕ) (bs os : List ℕ) (b : Bound) → (length bs ≡ 0) ⊎ (length os ≡ 0) → Filling e k bs os b → b ≡ e
filling_done e k [] os b n f = sym f.goes
filling_done e k (x ∷ bs) [] b n f = sym f.goes
filling_done e k (x ∷ bs) (o ∷ os) b n f = absurd (⊎_elim (λ q. omega (arith, q)) (λ q. omega (arith, q)) n)

-- nothing is filled yet
pub filling_start : (k : ℕ) (bs os cs ps : List ℕ) (b : Bound) → cs ≡ bs → ps ≡ os → length bs ≡ length os → too_far 0 (addresses bs os) ≡ None
    → ((j : ℕ) → k ≤ j → j < k + length bs → j < 64) → Filling (filled_from k (map DynamicUniformBuffer (addresses bs os)) b) k cs ps b
filling_start k bs os cs ps b p q same near within =
    let e = filled_from k (map DynamicUniformBuffer (addresses bs os)) b in
    subst (λ c. Filling e k c ps b) (sym p) (subst (λ y. Filling e k bs y b) (sym q) (record { same = same; near = (0, near); within = within; goes = refl }))
