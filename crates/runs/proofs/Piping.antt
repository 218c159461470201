-- What a pipeline call records, and that bound elements and the device agree behind it.
use Rattle.std.proofs.Common.{◌≡◌, ◌<◌, ℕ, true, ◌&&◌, List, ◌∷◌, ◌++◌, Some, None, Option, sym, refl, ap, ◌∙◌, subst}
use Rattle.std.proofs.lemmas.Bool.{false≢true, eqb-true, ltb-true, and_parts, cond_both}
use Rattle.std.proofs.lemmas.Option.{same_Some}
use Rattle.command_list.specs.declared.command.Half.{Half}
use Rattle.command_list.specs.Commands.{Command, SetPipelineState}
use Rattle.device.specs.Devices.{Device, play}
use Rattle.device.proofs.Quiets.{are_quiet}
use Rattle.device.proofs.Pipelines.{Piped, piped_by}
use Rattle.layouts.specs.declared.layout.PipelineLayout.{PipelineLayout}
use Rattle.passes.specs.Account.{Bound, Pipeline, is_current, renewed, switched}
use Rattle.passes.specs.Calls.{is_signed, signature_first, is_handle, asks_layout, asks_pipeline}
use Rattle.command_list.specs.Refusals.{fault, unless}
use Rattle.command_list.proofs.Refusing.{before_none, unless_none}
use Rattle.passes.specs.Flush.{value_at, Holds}
use Rattle.passes.proofs.Questions.{current_layout}
use Rattle.runs.proofs.Agreeing.{Agree, agree_renewed, same_signature}

is_signed_lem : (h : Half) (s : ℕ) (p : Option Pipeline) (b : Bound) (d : Device) → Agree h p b d → is_signed s p ≡ true → (d.halves h).signature ≡ s
is_signed_lem h s None b d g e = absurd (false≢true e)
is_signed_lem h s (Some x) b d g e = (g.piped x refl).1 ∙ sym (eqb-true s x.signature e)

-- what the records of a pipeline call do
pub pipe_played : (h : Half) (s handle : ℕ) (p : Option Pipeline) (b : Bound) (rest : List Command) (d : Device) → Agree h p b d → are_quiet rest ≡ true
    → Piped h s handle d (play (signature_first h s b.layout p ++ (SetPipelineState handle ∷ rest)) d)
pipe_played h s handle p b rest d g q =
    piped_by h s handle (is_current s b.layout && is_signed s p) rest d q
    (λ e. is_signed_lem h s p b d g (and_parts (is_current s b.layout) (is_signed s p) e).1)

pub agree_pipe : (h : Half) (p : Option Pipeline) (b : Bound) (d e : Device) (l : PipelineLayout) (handle : ℕ) → Agree h p b d → Piped h l.signature handle d e
    → asks_pipeline handle l b.layout ≡ None → Agree h (Some (record { handle = handle; signature = l.signature })) (switched l b) e
agree_pipe h p b d e l handle g w asked =
    let both = before_none (unless (is_handle handle) (fault 3 0)) (asks_layout l b.layout) asked in
    let q = both.1 in
    let some : 0 < handle = ltb-true 0 handle (unless_none (is_handle handle) (fault 3 0) both.0) in
    let x : Pipeline = record { handle = handle; signature = l.signature } in
    let piped : (y : Pipeline) → Some x ≡ Some y → (e.pipeline ≡ y.handle) × ((e.halves h).signature ≡ y.signature) × (0 < y.handle) = λ y s.
    let same = same_Some x y s in
    (w.on ∙ ap (λ (z : Pipeline). z.handle) same, w.signature ∙ ap (λ (z : Pipeline). z.signature) same, subst (λ (z : Pipeline). 0 < z.handle) same some) in
    cond_both (is_current l.signature b.layout) b (renewed l b) (λ c. Agree h (Some x) c e)
    (λ cur.
    let now = current_layout l b.layout q cur in
    record {
      piped = piped;
      within = g.within;
      held = λ m is k lt off.
          let old = g.held m is k lt off in
          let same : l.signature ≡ m.signature = same_signature b.layout l m now is in
          let own : (d.halves h).signature ≡ l.signature = (g.piped old.pipeline old.set).1 ∙ old.same ∙ sym same in
          record {
            pipeline = x;
            set = refl;
            same = same;
            holds = subst (λ s. Holds (value_at h b k) (s k)) (sym (w.kept own)) old.holds;
            fit = old.fit;
          };
      special = g.special;
    })
    (λ _. agree_renewed h (Some x) l b e piped)
