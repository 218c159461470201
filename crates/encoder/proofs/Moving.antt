-- A call that passes from one phase to another.
use Rattle.std.proofs.Common.{◌≡◌, ℕ, true, cond, leb, is_some, option_map, List, Some, None, Ok, Err, Option, Result, sym, refl, ap, ◌∙◌, subst}
use Rattle.std.proofs.lemmas.Bool.{true≢false, false≢true}
use Rattle.command_list.specs.declared.fault.Fault.{Fault}
use Rattle.command_list.specs.Refusals.{why_of}
use Rattle.encoder.specs.declared.state.ListState.{ListState}
use Rattle.device.specs.Meaning.{Meaning, Recorded, sizes}
use Rattle.encoder.specs.Opening.{is_labelled}
use Rattle.encoder.specs.Scenes.{Call, Stage, offers, next, asks, records, account_of, start_of, taken, refused, judged, not_offered, verdict, Does}
use Rattle.encoder.specs.Phases.{scene}
use Rattle.encoder.specs.Putting.{Offered}

module _ (s : Stage) (own : ListState) (m n : Meaning) (c : Call) (offered : offers s c ≡ true) (start_is : start_of c m ≡ m) where
  verdict_is : verdict (scene s own m) c ≡ judged (asks own c (account_of s)) (leb (sizes (records own c (account_of s))) m.space)
  unfolding verdict
  verdict_is =
      ap (λ o. cond o (judged (asks own c (account_of s)) (leb (sizes (records own c (account_of s))) (start_of c m).space)) not_offered) offered
      ∙ ap (λ (x : Meaning). judged (asks own c (account_of s)) (leb (sizes (records own c (account_of s))) x.space)) start_is

  -- it is taken, and the next phase stands there
  pub moves : (t : Stage) (r : Result Unit Fault) (u : Unit) → next c s ≡ t → Offered (asks own c (account_of s)) (records own c (account_of s)) m r n → r ≡ Ok u → Does (scene s own m) c taken (scene t own n)
  moves t r u next_is o e =
      let h = subst (λ x. Offered (asks own c (account_of s)) (records own c (account_of s)) m x n) e o in
      record {
        answer = h.answer ∙ sym verdict_is;
        refused = λ q. absurd (true≢false q);
        own = refl;
        stage = λ q. sym next_is;
        recorded = λ q. subst (λ x. Recorded x (records own c (account_of s)) n) (sym start_is) (h.recorded q);
      }

  -- it is refused, and its phase is handed back
  pub stays : (r : Result Unit Fault) (f : Fault) → Offered (asks own c (account_of s)) (records own c (account_of s)) m r n → r ≡ Err f → Does (scene s own m) c (refused (why_of f)) (scene s own n)
  stays r f o e =
      let h = subst (λ x. Offered (asks own c (account_of s)) (records own c (account_of s)) m x n) e o in
      record {
        answer = h.answer ∙ sym verdict_is;
        refused = λ q. ap (scene s own) (h.refused q).1;
        own = refl;
        stage = λ q. absurd (false≢true q);
        recorded = λ q. absurd (false≢true q);
      }

pub labelled_is : {X : Type 0} (f : X → List ℕ) (o : Option X) → is_some o ≡ is_labelled (option_map f o)
labelled_is f None = refl
labelled_is f (Some x) = refl
