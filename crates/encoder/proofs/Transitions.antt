-- A transition call, in the words of the barriers and in those of the calls.
use Rattle.std.proofs.Common.{◌≡◌, ℕ, ◌+◌, Bool, true, false, ◌||◌, eqb, leb, List, length, Some, None, Ok, Err, Option, Result, sym, refl, ap, ◌∙◌, ⊎_elim, arith}
use Rattle.std.proofs.lemmas.Bool.{and_from, and_parts, le-leb, leb-true, eq-eqb, ne_eqb, cases_eq}
use Rattle.command_list.specs.declared.command.Barrier.{Barrier}
use Rattle.command_list.specs.declared.fault.Fault.{Fault}
use Rattle.device.specs.Meaning.{Meaning}
use Rattle.resources.specs.Barriers.{Change, barriers_of, in_range, present, verdict}
use Rattle.resources.specs.Batches.{Takes, Batched, Transitioned, transition_records}
use Rattle.encoder.specs.Opening.{transition, scratch_takes, asks_quiet, quiet_records}
use Rattle.encoder.specs.Handled.{Handled}
use Rattle.encoder.proofs.Handling.{handled_asked, handled_full, handled_taken}
use Rattle.command_list.specs.Refusals.{Why, why_of, first_from, fault_at, before, fault_of, fault, unless}
use Rattle.command_list.proofs.Refusing.{some≢none, fault_by}

-- every change is in range and has its resource
clear_by : (o q : Option ℕ) (x : Option Why) → before (fault_at 1 o) (fault_at 3 q) ≡ None → before (fault_at 1 o) (before (fault_at 3 q) x) ≡ x
clear_by None None x e = refl
clear_by None (Some j) x e = absurd (some≢none (fault 3 j) e)
clear_by (Some i) q x e = absurd (some≢none (fault 1 i) e)

-- one is not
first_by : (o q : Option ℕ) (x : Option Why) (w : Why) → Some w ≡ before (fault_at 1 o) (fault_at 3 q) → before (fault_at 1 o) (before (fault_at 3 q) x) ≡ Some w
first_by None None x w e = absurd (some≢none w e)
first_by None (Some j) x w e = sym e
first_by (Some i) q x w e = sym e

-- a scratch takes the barriers, as a test
takes_test : (len fill : ℕ) (es : List Barrier) → Takes len fill es → scratch_takes len fill (length es) ≡ true
takes_test len fill es t =
    and_from (leb len 2048) _ (le-leb len 2048 t.0)
    (⊎_elim (λ z. ap (λ b. b || leb (fill + length es) len) (eq-eqb (length es) 0 z))
    (λ z. ap (λ b. b || leb (fill + length es) len) (ne_eqb (length es) 0 z) ∙ le-leb (fill + length es) len (t.1 (omega arith)))
    (cases_eq (length es) 0))

test_takes : (len fill : ℕ) (es : List Barrier) → scratch_takes len fill (length es) ≡ true → Takes len fill es
test_takes len fill es e =
    let p = and_parts (leb len 2048) (eqb (length es) 0 || leb (fill + length es) len) e in
    (leb-true len 2048 p.0, λ more. leb-true (fill + length es) len (sym (ap (λ b. b || leb (fill + length es) len) (ne_eqb (length es) 0 (λ z. omega arith))) ∙ p.1))

no_test : (t : Bool) → (t ≡ true → ⊥) → t ≡ false
no_test true h = absurd (h refl)
no_test false h = refl

module _ {X : Type 0} (m n : Meaning) (len fill : ℕ) (cs : List Change) (a : X) where
  batched : (r : Result Unit Fault) → verdict cs ≡ None → Batched m len fill (barriers_of cs) r n → Handled (asks_quiet (transition cs len fill)) (transition_records (barriers_of cs)) a a m r a n
  batched r v b = by r b
    where
      clear : (t : Bool) → scratch_takes len fill (length (barriers_of cs)) ≡ t → asks_quiet (transition cs len fill) ≡ unless t (fault 9 0)
      clear t e = clear_by (first_from 0 in_range cs) (first_from 0 present cs) _ v ∙ ap (λ x. unless x (fault 9 0)) e

      by : (r : Result Unit Fault) → Batched m len fill (barriers_of cs) r n → Handled (asks_quiet (transition cs len fill)) (transition_records (barriers_of cs)) a a m r a n
      by (Ok u) k = handled_taken _ _ a a m a n (clear true (takes_test len fill (barriers_of cs) k.0)) k.1 refl k.2
      by (Err f) k =
          ⊎_elim
          (λ q. handled_asked _ _ a a m a n f (clear false (no_test (scratch_takes len fill (length (barriers_of cs))) (λ e. q.1 (test_takes len fill (barriers_of cs) e))) ∙ ap Some (sym (fault_by f 9 0 q.0))) refl k.0)
          (λ q. handled_full _ _ a a m a n f (fault_by f 10 0 q.0) (clear true (takes_test len fill (barriers_of cs) q.1)) q.2 refl k.0)
          k.1

  pub transitioned : (r : Result Unit Fault) → Transitioned m len fill cs r n → Handled (asks_quiet (transition cs len fill)) (quiet_records (transition cs len fill)) a a m r a n
  transitioned r t = ⊎_elim (λ k. batched r k.0 k.1) (λ k. by r k.0 k.1 k.2) t
    where
      by : (r : Result Unit Fault) → (verdict cs ≡ None → ⊥) → fault_of r ≡ verdict cs → n ≡ m → Handled (asks_quiet (transition cs len fill)) (quiet_records (transition cs len fill)) a a m r a n
      by (Ok u) v e s = absurd (v (sym e))
      by (Err f) v e s = handled_asked _ _ a a m a n f (first_by (first_from 0 in_range cs) (first_from 0 present cs) _ (why_of f) e) refl s
