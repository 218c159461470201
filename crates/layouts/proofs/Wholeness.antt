-- Every layout is whole.
use Rattle.std.proofs.Common.{◌≡◌, ℕ, zero, suc, ◌<◌, ◌≤◌, Bool, true, false, cond, not, ◌&&◌, ◌||◌, eqb, ltb, leb, List, [], ◌∷◌, ◌++◌, length, get_or, is_some, Some, None, Option, sym, refl, ap, ◌∙◌, ⊎_elim, arith}
use Rattle.std.proofs.lemmas.Bool.{and_parts, and_from, or_left, or_right, eqb-false, leb-true, eq-eqb, le-leb, lt-ltb, cases_lt, not-true, or_from, true≢false}
use Rattle.layouts.specs.declared.info.BindGroupInfo.{BindGroupInfo}
use Rattle.layouts.specs.declared.info.ImmediatesInfo.{ImmediatesInfo}
use Rattle.layouts.specs.declared.info.PipelineLayoutSpecialConstants.{PipelineLayoutSpecialConstants}
use Rattle.layouts.specs.declared.info.Owner.{Owner}
use Rattle.layouts.specs.declared.info.Owner.TheVariants.{Table, Uniform, Immediates, Special}
use Rattle.layouts.specs.declared.layout.PipelineLayout.{PipelineLayout}
use Rattle.layouts.specs.Owners.{first_uniform, behind, among, when, of_group, of_groups, special_at, immediates_at, owners, first, is_table, is_uniform, owned, held, immediates_within, fits, once_below, sound}
use Rattle.command_list.specs.Bits.{bit}
use Rattle.layouts.specs.Layouts.{owners_in, owner_in, group_in, Owns, Whole}
use Rattle.layouts.proofs.Owning.{held_append, tables_of, uniforms_of, fit_parts, none_from, one_below, how_many, kind_owner, owner_special, is_table_lem, is_uniform_lem}

-- what the type of layouts keeps

pub sound_parts : (signature total : ℕ) (s : Option PipelineLayoutSpecialConstants) (i : Option ImmediatesInfo) (gs : List (Option BindGroupInfo)) → sound signature total s i gs ≡ true
    → (0 < signature) × (fits total s i gs ≡ true) × (once_below (owners s i gs) total ≡ true)
sound_parts signature total s i gs h =
    let p = and_parts (not (eqb signature 0)) (fits total s i gs && once_below (owners s i gs) total) h in
    let q = and_parts (fits total s i gs) (once_below (owners s i gs) total) p.1 in
    let n = eqb-false signature 0 (not-true (eqb signature 0) p.0) in
    (positive signature n, q.0, q.1)
  where
    positive : (n : ℕ) → (n ≡ 0 → ⊥) → 0 < n
    positive zero h = absurd (h refl)
    positive (suc n) h = omega arith

abbrev pub is_immediates : Owner → Bool
is_immediates Table = false
is_immediates Uniform = false
is_immediates Immediates = true
is_immediates Special = false

abbrev pub is_special : Owner → Bool
is_special Table = false
is_special Uniform = false
is_special Immediates = false
is_special Special = true

is_immediates_lem : (o : Option Owner) → owned is_immediates o ≡ true → Some Immediates ≡ o
is_immediates_lem (Some Table) e = absurd (true≢false (sym e))
is_immediates_lem (Some Uniform) e = absurd (true≢false (sym e))
is_immediates_lem (Some Immediates) e = refl
is_immediates_lem (Some Special) e = absurd (true≢false (sym e))
is_immediates_lem None e = absurd (true≢false (sym e))

-- a group's owners are among all owners
in_groups : (kind : Owner → Bool) (k : ℕ) (gs : List (Option BindGroupInfo)) (j : ℕ) (g : BindGroupInfo) → get_or gs j None ≡ Some g → held kind (of_group k (Some g)) ≡ true → held kind (of_groups k gs) ≡ true
in_groups kind k [] j g e h = absurd (none e)
  where
    none : None ≡ Some g → ⊥
    none p = let z : ◌≡◌ {A = ℕ} 0 1 = cc in omega arith
in_groups kind k (o ∷ gs) zero g e h =
    held_append kind (of_group k o) (of_groups k gs) ∙ or_left (held kind (of_group k o)) (held kind (of_groups k gs)) (ap (λ x. held kind (of_group k x)) e ∙ h)
in_groups kind k (o ∷ gs) (suc j) g e h =
    held_append kind (of_group k o) (of_groups k gs) ∙ or_right (held kind (of_group k o)) (held kind (of_groups k gs)) (in_groups kind k gs j g e h)

module _ (l : PipelineLayout) where
  parts : (0 < l.signature) × (fits l.total_root_elements l.special_constants l.immediates_info l.bind_group_infos ≡ true)
      × (once_below (owners l.special_constants l.immediates_info l.bind_group_infos) l.total_root_elements ≡ true)
  parts = sound_parts l.signature l.total_root_elements l.special_constants l.immediates_info l.bind_group_infos l.ok

  pub no_owners_from : (k : ℕ) → l.total_root_elements ≤ k → owners_in l k ≡ []
  no_owners_from = none_from l.total_root_elements l.special_constants l.immediates_info l.bind_group_infos parts.1 parts.2

  pub one_owner : (k : ℕ) → k < l.total_root_elements → length (owners_in l k) ≡ 1
  one_owner = one_below l.total_root_elements l.special_constants l.immediates_info l.bind_group_infos parts.1 parts.2

  -- a slot with an owner is one of the layout's
  pub within : (k : ℕ) (o : Owner) → owner_in l k ≡ Some o → k < l.total_root_elements
  within k o e = ⊎_elim (λ h. h) (λ h. absurd (none (sym (ap first (no_owners_from k h)) ∙ e))) (cases_lt k l.total_root_elements)
    where
      none : None ≡ Some o → ⊥
      none p = let z : ◌≡◌ {A = ℕ} 0 1 = cc in omega arith

  owns : (o : Owner) (k : ℕ) → Some o ≡ owner_in l k → Owns l o k
  owns o k e = (within k o (sym e), sym e)

  kind_in : (kind : Owner → Bool) (k : ℕ) → held kind (owners_in l k) ≡ true → owned kind (owner_in l k) ≡ true
  kind_in kind k h =
      sym (kind_owner l.total_root_elements l.special_constants l.immediates_info l.bind_group_infos parts.1 parts.2 kind k) ∙ h

  of_groups_lem : (kind : Owner → Bool) (k : ℕ) → held kind (of_groups k l.bind_group_infos) ≡ true → held kind (owners_in l k) ≡ true
  of_groups_lem kind k h =
      let a = when (special_at l.special_constants k) Special in
      let b = when (immediates_at l.immediates_info k) Immediates in
      let gs = of_groups k l.bind_group_infos in
      held_append kind a (b ++ gs) ∙ or_right (held kind a) (held kind (b ++ gs)) (held_append kind b gs ∙ or_right (held kind b) (held kind gs) h)

  special_owns : (c : PipelineLayoutSpecialConstants) → l.special_constants ≡ Some c → Owns l Special c.root_index
  special_owns c e =
      owns Special c.root_index
      (owner_special l.special_constants l.immediates_info l.bind_group_infos c.root_index (ap (λ s. special_at s c.root_index) e ∙ eq-eqb c.root_index c.root_index refl))

  immediates_own : (i : ImmediatesInfo) → l.immediates_info ≡ Some i → Owns l Immediates i.root_index
  immediates_own i e =
      let k = i.root_index in
      let here : immediates_at l.immediates_info k ≡ true = ap (λ s. immediates_at s k) e ∙ eq-eqb k k refl in
      let a = when (special_at l.special_constants k) Special in
      let b = when (immediates_at l.immediates_info k) Immediates in
      let gs = of_groups k l.bind_group_infos in
      let held-b : held is_immediates b ≡ true = ap (λ t. held is_immediates (when t Immediates)) here in
      let h : held is_immediates (owners_in l k) ≡ true =
      held_append is_immediates a (b ++ gs) ∙ or_right (held is_immediates a) (held is_immediates (b ++ gs)) (held_append is_immediates b gs ∙ or_left (held is_immediates b) (held is_immediates gs) held-b) in
      owns Immediates k (is_immediates_lem (owner_in l k) (kind_in is_immediates k h))

  immediates_size : (i : ImmediatesInfo) → l.immediates_info ≡ Some i → (1 ≤ i.size) × (i.size ≤ 32)
  immediates_size i e =
      let w = sym (ap (immediates_within l.total_root_elements) e) ∙ (fit_parts l.total_root_elements l.special_constants l.immediates_info l.bind_group_infos parts.1).2 in
      let p = and_parts (ltb i.root_index l.total_root_elements) (leb 1 i.size && leb i.size 32) w in
      let q = and_parts (leb 1 i.size) (leb i.size 32) p.1 in
      (leb-true 1 i.size q.0, leb-true i.size 32 q.1)

  table_owns : (j : ℕ) (g : BindGroupInfo) → group_in l j ≡ Some g → g.table ≡ true → Owns l Table g.base_root_index
  table_owns j g e t =
      let k = g.base_root_index in
      let one : ◌≡◌ {A = ℕ} (cond g.table 1 0) 1 = ap (λ b. cond {A = ℕ} b 1 0) t in
      let here : among k (first_uniform g) k ≡ true = and_from (leb k k) (ltb k (first_uniform g)) (le-leb k k (omega arith)) (lt-ltb k (first_uniform g) (omega arith)) in
      owns Table k (is_table_lem (owner_in l k) (kind_in is_table k (of_groups_lem is_table k (in_groups is_table k l.bind_group_infos j g e (tables_of k g ∙ here)))))

  uniforms_own : (j : ℕ) (g : BindGroupInfo) → group_in l j ≡ Some g → (k : ℕ) → first_uniform g ≤ k → k < behind g → Owns l Uniform k
  uniforms_own j g e k p q =
      let here : among (first_uniform g) (behind g) k ≡ true = and_from (leb (first_uniform g) k) (ltb k (behind g)) (le-leb (first_uniform g) k p) (lt-ltb k (behind g) q) in
      owns Uniform k (is_uniform_lem (owner_in l k) (kind_in is_uniform k (of_groups_lem is_uniform k (in_groups is_uniform k l.bind_group_infos j g e (uniforms_of k g ∙ here)))))

-- the masks and the other way round: whose slot it is, read off the owner

-- a group's owners are tables and uniforms
no_kind : (kind : Owner → Bool) → kind Table ≡ false → kind Uniform ≡ false → (k : ℕ) (gs : List (Option BindGroupInfo)) → held kind (of_groups k gs) ≡ false
no_kind kind t u k [] = refl
no_kind kind t u k (None ∷ gs) = no_kind kind t u k gs
no_kind kind t u k (Some g ∷ gs) =
    held_append kind (of_group k (Some g)) (of_groups k gs)
    ∙ or_from (held kind (of_group k (Some g))) (held kind (of_groups k gs)) (by (among g.base_root_index (first_uniform g) k) (among (first_uniform g) (behind g) k)) (no_kind kind t u k gs)
  where
    by : (a b : Bool) → held kind (when a Table ++ when b Uniform) ≡ false
    by true true = or_from (kind Table) (kind Uniform || false) t (or_from (kind Uniform) false u refl)
    by true false = or_from (kind Table) false t refl
    by false true = or_from (kind Uniform) false u refl
    by false false = refl

module _ (l : PipelineLayout) (k : ℕ) where
  owners_kind : (kind : Owner → Bool) → owned kind (owner_in l k)
      ≡ (held kind (when (special_at l.special_constants k) Special) || (held kind (when (immediates_at l.immediates_info k) Immediates) || held kind (of_groups k l.bind_group_infos)))
  owners_kind kind =
      let a = when (special_at l.special_constants k) Special in
      let b = when (immediates_at l.immediates_info k) Immediates in
      let gs = of_groups k l.bind_group_infos in
      sym (kind_owner l.total_root_elements l.special_constants l.immediates_info l.bind_group_infos (parts l).1 (parts l).2 kind k)
      ∙ held_append kind a (b ++ gs) ∙ ap (λ x. held kind a || x) (held_append kind b gs)

  -- the owner is the special constants exactly at their slot
  pub special_slot_lem : owned is_special (owner_in l k) ≡ special_at l.special_constants k
  special_slot_lem =
      owners_kind is_special
      ∙ ap (λ x. held is_special (when (special_at l.special_constants k) Special) || (held is_special (when (immediates_at l.immediates_info k) Immediates) || x)) (no_kind is_special refl refl k l.bind_group_infos)
      ∙ by (special_at l.special_constants k) (immediates_at l.immediates_info k)
    where
      by : (a b : Bool) → (held is_special (when a Special) || (held is_special (when b Immediates) || false)) ≡ a
      by true b = refl
      by false true = refl
      by false false = refl

  -- the owner is the immediates exactly at their slot
  pub immediates_slot : owned is_immediates (owner_in l k) ≡ immediates_at l.immediates_info k
  immediates_slot =
      owners_kind is_immediates
      ∙ ap (λ x. held is_immediates (when (special_at l.special_constants k) Special) || (held is_immediates (when (immediates_at l.immediates_info k) Immediates) || x)) (no_kind is_immediates refl refl k l.bind_group_infos)
      ∙ by (special_at l.special_constants k) (immediates_at l.immediates_info k)
    where
      by : (a b : Bool) → (held is_immediates (when a Special) || (held is_immediates (when b Immediates) || false)) ≡ b
      by true true = refl
      by true false = refl
      by false true = refl
      by false false = refl

  -- a slot has an owner exactly if it is below the total
  pub owned_below : is_some (owner_in l k) ≡ ltb k l.total_root_elements
  owned_below =
      by (owners_in l k) (ltb k l.total_root_elements)
      (how_many l.total_root_elements l.special_constants l.immediates_info l.bind_group_infos (parts l).1 (parts l).2 k)
    where
      by : (os : List Owner) (b : Bool) → length os ≡ cond b 1 0 → is_some (first os) ≡ b
      by [] true e = absurd (omega arith)
      by [] false e = refl
      by (o ∷ os) true e = refl
      by (o ∷ os) false e = absurd (omega arith)

  -- the slots below the total are those of the two masks, of the immediates and of the special constants
  pub slots_covered : ltb k l.total_root_elements
      ≡ (bit l.tables k || (bit l.uniforms k || (immediates_at l.immediates_info k || special_at l.special_constants k)))
  slots_covered =
      sym owned_below ∙ by (owner_in l k)
      ∙ ap (λ x. x || (owned is_uniform (owner_in l k) || (owned is_immediates (owner_in l k) || owned is_special (owner_in l k)))) (sym (l.table_slots k))
      ∙ ap (λ x. bit l.tables k || (x || (owned is_immediates (owner_in l k) || owned is_special (owner_in l k)))) (sym (l.uniform_slots k))
      ∙ ap (λ x. bit l.tables k || (bit l.uniforms k || (x || owned is_special (owner_in l k)))) immediates_slot
      ∙ ap (λ x. bit l.tables k || (bit l.uniforms k || (immediates_at l.immediates_info k || x))) special_slot_lem
    where
      by : (o : Option Owner) → is_some o ≡ (owned is_table o || (owned is_uniform o || (owned is_immediates o || owned is_special o)))
      by None = refl
      by (Some Table) = refl
      by (Some Uniform) = refl
      by (Some Immediates) = refl
      by (Some Special) = refl

pub whole : (l : PipelineLayout) → Whole l
whole l = record {
  signed = (parts l).0;
  few = (fit_parts l.total_root_elements l.special_constants l.immediates_info l.bind_group_infos (parts l).1).0;
  one = one_owner l;
  none = no_owners_from l;
  special = special_owns l;
  immediates = λ i e. (immediates_own l i e, immediates_size l i e);
  table = table_owns l;
  uniforms = uniforms_own l;
}
