-- The one record of some barriers, and what becomes of it.
use Rattle.std.proofs.Common.{◌≡◌, ℕ, ◌+◌, ◌-◌, ◌*◌, ◌<◌, ◌≤◌, true, ltb, List, [], ◌∷◌, Ok, Err, Result, length, take, drop, sym, refl, ap, ◌∙◌, subst, inr, ⊎_elim, arith}
use Rattle.std.specs.List.{flat_map}
use Rattle.std.proofs.lemmas.Bool.{and_from, lt-ltb, cases_lt}
use Rattle.std.proofs.lemmas.List.{nil_from_length}
use Rattle.command_list.specs.declared.command.Barrier.{Barrier}
use Rattle.command_list.specs.declared.fault.Fault.{Fault}
use Rattle.command_list.specs.Numbers.{total}
use Rattle.command_list.specs.Commands.{Command, ResourceBarrier, entry, entry_width, readable}
use Rattle.list_writer.proofs.Rows.{total_entries}
use Rattle.device.specs.Meaning.{Meaning, Recorded, Asked, sizes}
use Rattle.device.proofs.Runs.{recorded_none}
use Rattle.resources.specs.Batches.{transition_records, Takes, Batched}

pub barriers_readable : (es : List Barrier) → 0 < length es → length es ≤ 2048 → readable (ResourceBarrier es) ≡ true
barriers_readable es h k =
    and_from (ltb 0 (length es)) (ltb (total (flat_map entry es)) 65535) (lt-ltb 0 (length es) h) (lt-ltb (total (flat_map entry es)) 65535 (omega (arith, total_entries entry entry_width (λ e. refl) es)))

pub records_some : (es : List Barrier) → 0 < length es → transition_records es ≡ ResourceBarrier es ∷ []
records_some [] h = absurd (omega arith)
records_some (e ∷ es) h = refl

-- a record's bytes: three of its head, and seventeen for each entry
pub records_size : (es : List Barrier) → 0 < length es → sizes (transition_records es) ≡ 3 + 17 * length es
records_size es h = ap sizes (records_some es h) ∙ omega (arith, total_entries entry entry_width (λ e. refl) es)

-- what was put from the fill on is what the guard says was made
pub made_is : (len was end : ℕ) (es part xs : List Barrier) → (end ≡ was + length es) × (0 < length es → end ≤ len) × (take (end - was) (drop was xs) ≡ es) → length xs ≡ len
    → (was ≤ end → end ≤ length xs → part ≡ take (end - was) (drop was xs)) → (length xs < end → part ≡ [])
    → (end ≡ was + length es) × (0 < length es → end ≤ len) × (part ≡ es)
made_is len was end es part xs put l within past = (put.0, put.1, ⊎_elim (λ h. past h ∙ sym (nil_from_length es (none h))) (λ h. within (omega (arith, put.0)) h ∙ put.2) (cases_lt (length xs) end))
  where
    none : length xs < end → length es ≡ 0
    none h = ⊎_elim (λ k. absurd (omega (arith, put.1 k, h, l))) (λ k. omega (arith, k)) (cases_lt 0 (length es))

-- ---- barriers es, which were put into a scratch of so many entries and are the part that is recorded
module _ (m n : Meaning) (len was end : ℕ) (es part : List Barrier) (short : len ≤ 2048) (put : (end ≡ was + length es) × (0 < length es → end ≤ len) × (part ≡ es)) where
  pub taken_in : Takes len was es
  taken_in = (short, λ h. omega (arith, put.0, put.1 h))

  some : 0 < length part → 0 < length es
  some h = omega (arith, ap length put.2)

  one : 0 < length part → ResourceBarrier part ∷ [] ≡ transition_records es
  one h = ap (λ (l : List Barrier). ResourceBarrier l ∷ []) put.2 ∙ sym (records_some es (some h))

  -- what one record of them answered is what became of them
  pub batch_asked : (r : Result Unit Fault) → 0 < length part → Asked m (ResourceBarrier part) r n → Batched m len was es r n
  batch_asked (Ok u) h t = (taken_in, omega (arith, t.fits, ap sizes (one h)), subst (λ (cs : List Command). Recorded m cs n) (one h) t.recorded)
  batch_asked (Err f) h r =
      let s = some h in
      let l : length part ≡ length es = ap length put.2 in
      let k : length es ≤ 2048 = omega (arith, put.0, put.1 s) in
      let b = barriers_readable part (omega (arith, l, s)) (omega (arith, l, k)) in
      let e : sizes (ResourceBarrier part ∷ []) ≡ sizes (transition_records es) = ap sizes (one h) in
      (r.same, inr (r.fault, taken_in, ⊎_elim (λ x. x) (λ x. absurd (r.why b (omega (arith, x, e)))) (cases_lt m.space (sizes (transition_records es)))))

  -- none was made, and nothing is recorded
  pub batch_none : length part ≡ 0 → Batched m len was es (Ok tt) m
  batch_none h =
      let e : transition_records es ≡ [] = ap transition_records (nil_from_length es (omega (arith, ap length put.2, h))) in
      (taken_in, omega (arith, ap sizes e), subst (λ (cs : List Command). Recorded m cs m) (sym e) (recorded_none m))
