-- What is so of the owners of a layout's slots, and of the masks.
use Rattle.std.proofs.Common.{◌≡◌, ℕ, ◌+◌, ◌<◌, ◌≤◌, Bool, true, false, cond, not, ◌&&◌, ◌||◌, eqb, ltb, leb, ◌⊎◌, List, [], ◌∷◌, ◌++◌, length, get_or, drop, Some, None, Option, sym, refl, ap, ◌∙◌, ap₂, inl, inr, ⊎_elim, arith}
use lib.Bits.{bit_or}
use Rattle.std.proofs.lemmas.List.{at_drop_more, at_drop_all}
use Rattle.std.proofs.lemmas.Bool.{and_parts, or_cases, leb-true, ltb-true, lt-ltb, le-ltb, ne_eqb, cases_lt, true≢false, and_right, and_from}
use Rattle.std.proofs.lemmas.Bool.Decides.{nat_tests}
use Rattle.layouts.specs.declared.info.BindGroupInfo.{BindGroupInfo}
use Rattle.layouts.specs.declared.info.ImmediatesInfo.{ImmediatesInfo}
use Rattle.layouts.specs.declared.info.PipelineLayoutSpecialConstants.{PipelineLayoutSpecialConstants}
use Rattle.layouts.specs.declared.info.Owner.{Owner}
use Rattle.layouts.specs.declared.info.Owner.TheVariants.{Table, Uniform, Immediates, Special}
use Rattle.command_list.specs.Bits.{bit}
use Rattle.layouts.specs.Owners.{first_uniform, behind, among, when, of_group, of_groups, special_at, immediates_at, owners, first, owner_of, is_table, is_uniform, owned, held, group_within, groups_within, special_within, immediates_within, fits, once_below, sound}
use Rattle.layouts.proofs.Masks.{bit_or_lem, bit_none}
use Rattle.layouts.proofs.Steps.{once_decides}

-- a kind that is among the owners

pub held_append : (kind : Owner → Bool) (xs ys : List Owner) → held kind (xs ++ ys) ≡ (held kind xs || held kind ys)
held_append kind [] ys = refl
held_append kind (x ∷ xs) ys = ap (λ b. kind x || b) (held_append kind xs ys) ∙ assoc (kind x) (held kind xs) (held kind ys)
  where
    assoc : (a b c : Bool) → (a || (b || c)) ≡ ((a || b) || c)
    assoc true b c = refl
    assoc false b c = refl

held_when : (kind : Owner → Bool) (b : Bool) (o : Owner) → kind o ≡ false → held kind (when b o) ≡ false
held_when kind true o e = ap (λ x. x || false) e
held_when kind false o e = refl

pub tables_of : (k : ℕ) (g : BindGroupInfo) → held is_table (of_group k (Some g)) ≡ among g.base_root_index (first_uniform g) k
tables_of k g = by (among g.base_root_index (first_uniform g) k) (among (first_uniform g) (behind g) k)
  where
    by : (a b : Bool) → held is_table (when a Table ++ when b Uniform) ≡ a
    by true b = refl
    by false true = refl
    by false false = refl

pub uniforms_of : (k : ℕ) (g : BindGroupInfo) → held is_uniform (of_group k (Some g)) ≡ among (first_uniform g) (behind g) k
uniforms_of k g = by (among g.base_root_index (first_uniform g) k) (among (first_uniform g) (behind g) k)
  where
    by : (a b : Bool) → held is_uniform (when a Table ++ when b Uniform) ≡ b
    by true true = refl
    by true false = refl
    by false true = refl
    by false false = refl

-- a span of slots is the mask of what is among them
pub span_among : (a b k : ℕ) → (leb a k && (ltb k b && ltb k 64)) ≡ (ltb k 64 && among a b k)
span_among a b k = by (leb a k) (ltb k b) (ltb k 64)
  where
    by : (x y z : Bool) → (x && (y && z)) ≡ (z && (x && y))
    by true true true = refl
    by true true false = refl
    by true false true = refl
    by true false false = refl
    by false y true = refl
    by false y false = refl

-- the masks of groups, one after the other

-- what is in the mask or is still to come gives the slots of all groups
abbrev pub Gathers : (Owner → Bool) → List (Option BindGroupInfo) → ℕ → ℕ → Type 0
Gathers kind gs i mask =
    (k : ℕ) → (bit mask k || (ltb k 64 && held kind (of_groups k (drop i gs)))) ≡ (ltb k 64 && held kind (of_groups k gs))

pub gathers_none : (kind : Owner → Bool) (gs : List (Option BindGroupInfo)) → Gathers kind gs 0 0
gathers_none kind gs k = ap (λ b. b || (ltb k 64 && held kind (of_groups k gs))) (bit_none k)

pub gathers_more : (kind : Owner → Bool) (gs : List (Option BindGroupInfo)) (i mask m : ℕ) → i < length gs → Gathers kind gs i mask
    → ((k : ℕ) → bit m k ≡ (ltb k 64 && held kind (of_group k (get_or gs i None)))) → Gathers kind gs (i + 1) (bit_or mask m)
gathers_more kind gs i mask m h inv f k =
    ap (λ b. b || (ltb k 64 && held kind (of_groups k (drop (i + 1) gs)))) (bit_or_lem mask m k ∙ ap (λ b. bit mask k || b) (f k))
    ∙ by (bit mask k) (ltb k 64) (held kind (of_group k (get_or gs i None))) (held kind (of_groups k (drop (i + 1) gs)))
    ∙ ap (λ b. bit mask k || (ltb k 64 && b)) (sym step)
    ∙ inv k
  where
    step : held kind (of_groups k (drop i gs)) ≡ (held kind (of_group k (get_or gs i None)) || held kind (of_groups k (drop (i + 1) gs)))
    step = at_drop_more (λ xs. held kind (of_groups k xs)) gs i None h ∙ held_append kind (of_group k (get_or gs i None)) (of_groups k (drop (i + 1) gs))

    by : (a c x y : Bool) → ((a || (c && x)) || (c && y)) ≡ (a || (c && (x || y)))
    by true c x y = refl
    by false true true y = refl
    by false true false y = refl
    by false false x y = refl

pub gathers_past : (kind : Owner → Bool) (gs : List (Option BindGroupInfo)) (i mask : ℕ) → i < length gs → get_or gs i None ≡ None → Gathers kind gs i mask → Gathers kind gs (i + 1) mask
gathers_past kind gs i mask h e inv k =
    sym (ap (λ xs. bit mask k || (ltb k 64 && held kind xs)) (at_drop_more (of_groups k) gs i None h ∙ ap (λ o. of_group k o ++ of_groups k (drop (i + 1) gs)) e)) ∙ inv k

pub gathers_all : (kind : Owner → Bool) (gs : List (Option BindGroupInfo)) (i mask : ℕ) → length gs ≤ i → Gathers kind gs i mask
    → (k : ℕ) → bit mask k ≡ (ltb k 64 && held kind (of_groups k gs))
gathers_all kind gs i mask h inv k =
    sym (ap (λ b. bit mask k || (ltb k 64 && b)) (at_drop_all (λ xs. held kind (of_groups k xs)) gs i h) ∙ by (bit mask k) (ltb k 64)) ∙ inv k
  where
    by : (a c : Bool) → (a || (c && false)) ≡ a
    by true c = refl
    by false true = refl
    by false false = refl

-- what 'fits' says

pub fit_parts : (total : ℕ) (s : Option PipelineLayoutSpecialConstants) (i : Option ImmediatesInfo) (gs : List (Option BindGroupInfo)) → fits total s i gs ≡ true
    → (total ≤ 64) × (special_within total s ≡ true) × (immediates_within total i ≡ true) × (groups_within total gs ≡ true)
fit_parts total s i gs h =
    let p = and_parts (leb total 64) (special_within total s && (immediates_within total i && groups_within total gs)) h in
    let q = and_parts (special_within total s) (immediates_within total i && groups_within total gs) p.1 in
    let r = and_parts (immediates_within total i) (groups_within total gs) q.1 in
    (leb-true total 64 p.0, q.0, r.0, r.1)

-- no slot from the total on has an owner

special_none : (total : ℕ) (s : Option PipelineLayoutSpecialConstants) → special_within total s ≡ true → (k : ℕ) → total ≤ k → special_at s k ≡ false
special_none total None h k l = refl
special_none total (Some c) h k l = ne_eqb c.root_index k (λ e. omega (arith, ltb-true c.root_index total h))

immediates_none : (total : ℕ) (i : Option ImmediatesInfo) → immediates_within total i ≡ true → (k : ℕ) → total ≤ k → immediates_at i k ≡ false
immediates_none total None h k l = refl
immediates_none total (Some i) h k l =
    let p = and_parts (ltb i.root_index total) (leb 1 i.size && leb i.size 32) h in
    ne_eqb i.root_index k (λ e. omega (arith, ltb-true i.root_index total p.0))

among_none : (a b k : ℕ) → (b ≤ a) ⊎ (b ≤ k) → among a b k ≡ false
among_none a b k (inl h) = grind (arith, nat_tests)
among_none a b k (inr h) = and_right (leb a k) (ltb k b) (le-ltb k b h)

group_none : (total : ℕ) (g : Option BindGroupInfo) → group_within total g ≡ true → (k : ℕ) → total ≤ k → of_group k g ≡ []
group_none total None h k l = refl
group_none total (Some g) h k l =
    ⊎_elim
    (λ e. let f = leb-true (behind g) g.base_root_index e in rw (among_none g.base_root_index (first_uniform g) k (inl (omega arith)), among_none (first_uniform g) (behind g) k (inl (omega arith))))
    (λ e. let f = leb-true (behind g) total e in rw (among_none g.base_root_index (first_uniform g) k (inr (omega arith)), among_none (first_uniform g) (behind g) k (inr (omega arith))))
    (or_cases (leb (behind g) g.base_root_index) (leb (behind g) total) h)

groups_none : (total : ℕ) (gs : List (Option BindGroupInfo)) → groups_within total gs ≡ true → (k : ℕ) → total ≤ k → of_groups k gs ≡ []
groups_none total [] h k l = refl
groups_none total (g ∷ gs) h k l =
    let p = and_parts (group_within total g) (groups_within total gs) h in
    ap₂ (λ (xs ys : List Owner). xs ++ ys) (group_none total g p.0 k l) (groups_none total gs p.1 k l)

-- a list of at most one owner has a kind exactly if its first owner is of it
held_first : (kind : Owner → Bool) (xs : List Owner) → length xs ≤ 1 → held kind xs ≡ owned kind (first xs)
held_first kind [] h = refl
held_first kind (x ∷ []) h = by (kind x)
  where
    by : (b : Bool) → (b || false) ≡ b
    by true = refl
    by false = refl
held_first kind (x ∷ (y ∷ ys)) h = absurd (omega arith)

module _ (total : ℕ) (s : Option PipelineLayoutSpecialConstants) (i : Option ImmediatesInfo) (gs : List (Option BindGroupInfo))
    (fit : fits total s i gs ≡ true) (one : once_below (owners s i gs) total ≡ true) where
  pub none_from : (k : ℕ) → total ≤ k → owners s i gs k ≡ []
  none_from k l =
      let p = fit_parts total s i gs fit in
      let a : special_at s k ≡ false = special_none total s p.1 k l in
      let b : immediates_at i k ≡ false = immediates_none total i p.2 k l in
      let c : of_groups k gs ≡ [] = groups_none total gs p.3 k l in
      rw (a, b, c)

  pub one_below : (k : ℕ) → k < total → length (owners s i gs k) ≡ 1
  one_below = (once_decides (owners s i gs) total).0 one

  pub how_many : (k : ℕ) → length (owners s i gs k) ≡ cond (ltb k total) 1 0
  how_many k = by (cases_lt k total)
    where
      by : (k < total) ⊎ (total ≤ k) → length (owners s i gs k) ≡ cond (ltb k total) 1 0
      by (inl l) = rw (lt-ltb k total l) (one_below k l)
      by (inr l) = rw (le-ltb k total l) (ap length (none_from k l))

  at_most_one : (k : ℕ) → length (owners s i gs k) ≤ 1
  at_most_one k = by (ltb k total) (how_many k)
    where
      by : (b : Bool) → length (owners s i gs k) ≡ cond b 1 0 → length (owners s i gs k) ≤ 1
      by true e = omega arith
      by false e = omega arith

  pub kind_owner : (kind : Owner → Bool) (k : ℕ) → held kind (owners s i gs k) ≡ owned kind (owner_of s i gs k)
  kind_owner kind k = held_first kind (owners s i gs k) (at_most_one k)

  -- the mask of a kind that is neither the special constants' nor the immediates'
  pub mask_owner : (kind : Owner → Bool) (mask : ℕ) → kind Special ≡ false → kind Immediates ≡ false
      → ((k : ℕ) → bit mask k ≡ (ltb k 64 && held kind (of_groups k gs))) → (k : ℕ) → bit mask k ≡ owned kind (owner_of s i gs k)
  mask_owner kind mask no-special no-immediates f k = f k ∙ by (cases_lt k 64) ∙ kind_owner kind k
    where
      whole : held kind (owners s i gs k) ≡ held kind (of_groups k gs)
      whole =
          held_append kind (when (special_at s k) Special) (when (immediates_at i k) Immediates ++ of_groups k gs)
          ∙ ap (λ b. b || held kind (when (immediates_at i k) Immediates ++ of_groups k gs)) (held_when kind (special_at s k) Special no-special)
          ∙ held_append kind (when (immediates_at i k) Immediates) (of_groups k gs)
          ∙ ap (λ b. b || held kind (of_groups k gs)) (held_when kind (immediates_at i k) Immediates no-immediates)

      by : (k < 64) ⊎ (64 ≤ k) → (ltb k 64 && held kind (of_groups k gs)) ≡ held kind (owners s i gs k)
      by (inl l) = rw (lt-ltb k 64 l) (sym whole)
      by (inr l) =
          let p = fit_parts total s i gs fit in
          rw (le-ltb k 64 l) (sym (ap (held kind) (none_from k (omega arith))))

-- the owner, found by its tests

pub owner_special : (s : Option PipelineLayoutSpecialConstants) (i : Option ImmediatesInfo) (gs : List (Option BindGroupInfo)) (k : ℕ)
    → special_at s k ≡ true → Some Special ≡ owner_of s i gs k
owner_special s i gs k e = rw e

pub owner_immediates : (s : Option PipelineLayoutSpecialConstants) (i : Option ImmediatesInfo) (gs : List (Option BindGroupInfo)) (k : ℕ)
    → special_at s k ≡ false → immediates_at i k ≡ true → Some Immediates ≡ owner_of s i gs k
owner_immediates s i gs k e f = rw (e, f)

pub is_table_lem : (o : Option Owner) → owned is_table o ≡ true → Some Table ≡ o
is_table_lem (Some Table) e = refl
is_table_lem (Some Uniform) e = absurd (true≢false (sym e))
is_table_lem (Some Immediates) e = absurd (true≢false (sym e))
is_table_lem (Some Special) e = absurd (true≢false (sym e))
is_table_lem None e = absurd (true≢false (sym e))

pub is_uniform_lem : (o : Option Owner) → owned is_uniform o ≡ true → Some Uniform ≡ o
is_uniform_lem (Some Table) e = absurd (true≢false (sym e))
is_uniform_lem (Some Uniform) e = refl
is_uniform_lem (Some Immediates) e = absurd (true≢false (sym e))
is_uniform_lem (Some Special) e = absurd (true≢false (sym e))
is_uniform_lem None e = absurd (true≢false (sym e))

first_of_group : (a b : Bool) (os : List Owner)
    → owned is_table (first ((when a Table ++ when b Uniform) ++ os)) ≡ false → owned is_uniform (first ((when a Table ++ when b Uniform) ++ os)) ≡ false
    → (owned is_table (first os) ≡ false → owned is_uniform (first os) ≡ false → None ≡ first os) → None ≡ first ((when a Table ++ when b Uniform) ++ os)
first_of_group true b os t u next = absurd (true≢false t)
first_of_group false true os t u next = absurd (true≢false u)
first_of_group false false os t u next = next t u

groups_only : (k : ℕ) (gs : List (Option BindGroupInfo)) → owned is_table (first (of_groups k gs)) ≡ false → owned is_uniform (first (of_groups k gs)) ≡ false → None ≡ first (of_groups k gs)
groups_only k [] t u = refl
groups_only k (None ∷ gs) t u = groups_only k gs t u
groups_only k (Some g ∷ gs) t u =
    first_of_group (among g.base_root_index (first_uniform g) k) (among (first_uniform g) (behind g) k) (of_groups k gs) t u (groups_only k gs)

pub owner_none : (s : Option PipelineLayoutSpecialConstants) (i : Option ImmediatesInfo) (gs : List (Option BindGroupInfo)) (k : ℕ)
    → special_at s k ≡ false → immediates_at i k ≡ false → owned is_table (owner_of s i gs k) ≡ false → owned is_uniform (owner_of s i gs k) ≡ false → None ≡ owner_of s i gs k
owner_none s i gs k e f t u =
    let o : owner_of s i gs k ≡ first (of_groups k gs) = rw (e, f) in
    groups_only k gs (ap (owned is_table) (sym o) ∙ t) (ap (owned is_uniform) (sym o) ∙ u) ∙ sym o

-- what a layout keeps, from the answers to its questions
pub kept : (signature total : ℕ) (s : Option PipelineLayoutSpecialConstants) (i : Option ImmediatesInfo) (gs : List (Option BindGroupInfo)) (tables uniforms : ℕ) (r q : Bool)
    → (signature ≡ 0 → ⊥) → r ≡ fits total s i gs → r ≡ true → q ≡ once_below (owners s i gs) total → q ≡ true
    → ((k : ℕ) → bit tables k ≡ (ltb k 64 && held is_table (of_groups k gs))) → ((k : ℕ) → bit uniforms k ≡ (ltb k 64 && held is_uniform (of_groups k gs)))
    → (sound signature total s i gs ≡ true)
    × ((k : ℕ) → bit tables k ≡ owned is_table (owner_of s i gs k))
    × ((k : ℕ) → bit uniforms k ≡ owned is_uniform (owner_of s i gs k))
kept signature total s i gs tables uniforms r q n f fitting o once t u =
    let fit = sym f ∙ fitting in
    let one = sym o ∙ once in (
      and_from (not (eqb signature 0)) (fits total s i gs && once_below (owners s i gs) total) (ap not (ne_eqb signature 0 n))
          (and_from (fits total s i gs) (once_below (owners s i gs) total) fit one),
      mask_owner total s i gs fit one is_table tables refl refl t,
      mask_owner total s i gs fit one is_uniform uniforms refl refl u,
    )
