-- Entries of one width, one behind the other, as rows of fields.
use Rattle.std.proofs.Common.{◌≡◌, ℕ, zero, suc, ◌+◌, ◌/◌, true, false, cond, eqb, ◌⊎◌, List, [], ◌∷◌, ◌++◌, length, Some, None, sym, refl, ap, ◌∙◌, ap₂, inl, inr, ⊎_elim}
use Rattle.std.specs.List.{flat_map}
use Rattle.std.proofs.lemmas.Bool.{cond-true, cond-false, eqb-true, cases_Bool}
use Rattle.std.proofs.lemmas.Option.{none-some, same_Some}
use Rattle.command_list.specs.declared.command.BarrierType.{BarrierType}
use Rattle.command_list.specs.declared.command.BarrierType.TheVariants.{Transition, Uav}
use Rattle.command_list.specs.declared.command.Barrier.{Barrier}
use Rattle.command_list.specs.Numbers.{Field, total, widths, values, number_at, numbers}
use Rattle.command_list.specs.Commands.{unit, handle, entry, entry_widths, entry_width, type_byte}
use Rattle.command_list.specs.Seen.{every, entry_numbers}
use Rattle.command_list.specs.RowLaws.{then_is, count_every, count_entries}
use Rattle.command_list.specs.Decoding.{repeated, type_of, barriers}

-- rows of equal entries
module _ {X : Type 0} (row : X → List Field) (ws : List ℕ) (even : (x : X) → widths (row x) ≡ ws) where
  pub widths_joined : (xs : List X) → widths (flat_map row xs) ≡ repeated (length xs) ws
  widths_joined [] = refl
  widths_joined (x ∷ xs) =
      widths_append (row x) (flat_map row xs) ∙ ap₂ (λ p q. p ++ q) (even x) (widths_joined xs)
    where
      widths_append : (fs gs : List Field) → widths (fs ++ gs) ≡ widths fs ++ widths gs
      widths_append [] gs = refl
      widths_append (f ∷ fs) gs = ap (λ l. f.width ∷ l) (widths_append fs gs)

pub values_units : (us : List ℕ) → values (flat_map unit us) ≡ us
values_units [] = refl
values_units (u ∷ us) = ap (λ l. u ∷ l) (values_units us)

pub values_handles : (hs : List ℕ) → values (flat_map handle hs) ≡ hs
values_handles [] = refl
values_handles (h ∷ hs) = ap (λ l. h ∷ l) (values_handles hs)

-- a choice of two
pub two_ways : {A : Type 0} (n a b : ℕ) (x y z : A)
    → cond (eqb n a) (Some x) (cond (eqb n b) (Some y) None) ≡ Some z
    → ((z ≡ x) × (n ≡ a)) ⊎ ((z ≡ y) × (n ≡ b))
two_ways n a b x y z e =
    ⊎_elim {A = eqb n a ≡ true} {B = eqb n a ≡ false}
    (λ t. inl (sym (same_Some _ _ (sym (cond-true _ _ _ t) ∙ e)), eqb-true n a t))
    (λ f.
    ⊎_elim {A = eqb n b ≡ true} {B = eqb n b ≡ false}
    (λ t.
    inr (sym (same_Some _ _ (sym (cond-true _ _ _ t) ∙ sym (cond-false _ _ _ f) ∙ e)), eqb-true n b t))
    (λ g. absurd (none-some _ (sym (cond-false _ _ _ g) ∙ sym (cond-false _ _ _ f) ∙ e)))
    (cases_Bool (eqb n b)))
    (cases_Bool (eqb n a))

pub type_back : (n : ℕ) (t : BarrierType) → type_of n ≡ Some t → type_byte t ≡ n
type_back n t e =
    ⊎_elim (λ p. ap type_byte p.0 ∙ sym p.1) (λ p. ap type_byte p.0 ∙ sym p.1)
    (two_ways n 0 2 Transition Uav t e)

-- the numbers of entries are those of the barriers that they name
pub entries_back : (n at : ℕ) (ops : List ℕ) (es : List Barrier)
    → barriers (numbers (repeated n entry_widths) at ops) ≡ Some es
    → values (flat_map entry es) ≡ numbers (repeated n entry_widths) at ops
entries_back zero at ops es e = sym (ap (λ l. values (flat_map entry l)) (same_Some _ _ e))
entries_back (suc n) at ops es e =
    let a = then_is (type_of (number_at 1 at ops)) _ es e in
    let b =
    then_is (barriers (numbers (repeated n entry_widths) (at + 1 + 4 + 4 + 4 + 4) ops)) _ es a.2 in
    let ih = entries_back n (at + 1 + 4 + 4 + 4 + 4) ops b.0 b.1 in
    sym (ap (λ l. values (flat_map entry l)) (same_Some _ _ b.2))
    ∙ ap₂ (λ t l. t ∷ number_at 4 (at + 1) ops ∷ number_at 4 (at + 1 + 4) ops
    ∷ number_at 4 (at + 1 + 4 + 4) ops ∷ number_at 4 (at + 1 + 4 + 4 + 4) ops ∷ l)
    (type_back _ a.0 a.1) ih

pub unit_even : (u : ℕ) → total (unit u) ≡ 2
unit_even u = refl

pub handle_even : (h : ℕ) → total (handle h) ≡ 8
handle_even h = refl

pub entry_even : (e : Barrier) → total (entry e) ≡ entry_width
entry_even e = refl

pub units_read : (bs : List ℕ) (us : List ℕ) → Some (every 2 bs) ≡ Some us
    → values (flat_map unit us) ≡ numbers (widths (flat_map unit us)) 0 bs
units_read bs us e =
    let same = same_Some _ _ e in
    values_units us
    ∙ sym same
    ∙ ap (λ ws. numbers ws 0 bs)
    (sym (widths_joined unit (2 ∷ []) (λ u. refl) us
    ∙ ap (λ k. repeated k (2 ∷ [])) (sym (count_every 2 bs us e))))

pub handles_read : (bs : List ℕ) (hs : List ℕ) → Some (every 8 bs) ≡ Some hs
    → values (flat_map handle hs) ≡ numbers (widths (flat_map handle hs)) 0 bs
handles_read bs hs e =
    let same = same_Some _ _ e in
    values_handles hs
    ∙ sym same
    ∙ ap (λ ws. numbers ws 0 bs)
    (sym (widths_joined handle (8 ∷ []) (λ h. refl) hs
    ∙ ap (λ k. repeated k (8 ∷ [])) (sym (count_every 8 bs hs e))))

pub entries_read : (bs : List ℕ) (es : List Barrier) → barriers (entry_numbers bs) ≡ Some es
    → values (flat_map entry es) ≡ numbers (widths (flat_map entry es)) 0 bs
entries_read bs es e =
    entries_back (length bs / entry_width) 0 bs es e
    ∙ ap (λ ws. numbers ws 0 bs)
    (sym (widths_joined entry entry_widths (λ x. refl) es
    ∙ ap (λ k. repeated k entry_widths) (sym (count_entries bs es e))))
