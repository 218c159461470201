-- A step of a reader that gives a record leaves less of the file.
use Rattle.std.proofs.Common.{◌≡◌, ℕ, ◌-◌, ◌<◌, List, length, drop, Option, Some, Result, Ok, Err, MatchResult, sym, ap, ◌∙◌, arith}
use Rattle.std.specs.Result.{is_ok}
use Rattle.std.proofs.lemmas.Bool.{false≢true}
use Rattle.std.proofs.lemmas.List.{length-drop}
use Rattle.command_list.specs.declared.fault.Fault.{Fault}
use Rattle.command_list.specs.Commands.{Command}
use Rattle.command_list.specs.Seen.{Record, got, seen_step, step_at}
use Rattle.command_list.proofs.Fronts.{front_within}
use Rattle.list_file.proofs.Tails.{some_step, step_some}

closer : (bs : List ℕ) (at k : ℕ) (c : Command) → got c k ≡ step_at bs at → length bs - k < length bs - at
closer bs at k c e =
    let s = step_some bs at k c e in
    let w = front_within (drop at bs) c s.0 s.1 in
    let d = length-drop at bs in
    omega (arith, w.0, w.1, s.2)

pub shorter : {D : Type 0} (Q : Fault → Type 0) (o : Option Record) (x : Record) (r : Result (Option Record) Fault) (s : Result (Option Record) D) (at k : ℕ) (fs bs : List ℕ)
    → MatchResult r (λ y. s ≡ Ok y) Q → is_ok s ≡ is_ok r → s ≡ Ok o → o ≡ Some x → seen_step r k ≡ step_at fs at → fs ≡ bs → length bs - k < length bs - at
shorter Q o x (Ok y) s at k fs bs m v n q e b = closer bs at k _ (some_step y x k at fs bs e (same m n ∙ q) b)
  where
    same : {T D : Type 0} {a b : T} {r : Result T D} → r ≡ Ok a → r ≡ Ok b → a ≡ b
    same p q = cc
shorter Q o x (Err f) s at k fs bs m v n q e b = absurd (false≢true (sym v ∙ ap is_ok n))
