-- What an opening asks of its label.
use Rattle.std.proofs.Common.{◌≡◌, ℕ, ◌<◌, ◌≤◌, Bool, true, false, ◌&&◌, List, [], ◌∷◌, ◌++◌, length, Some, None, Err, Option, Result, sym, refl, ap, ◌∙◌, subst, ⊎_elim, arith, length-append}
use Rattle.std.proofs.lemmas.Bool.{and_from, le-leb, lt-leb}
use Rattle.std.specs.Str.{chars}
use Rattle.command_list.specs.declared.fault.Fault.{Fault}
use Rattle.command_list.specs.Commands.{Command, BeginEvent, SetDescriptorHeaps}
use Rattle.device.specs.Meaning.{Meaning}
use Rattle.labels.specs.Unicode.{utf16s}
use Rattle.labels.specs.Labels.{Labelled, Refused, label_units}
use Rattle.labels.specs.Utf8.{is_utf8}
use Rattle.labels.proofs.Utf8.{formed_test, test_formed}
use Rattle.bindings.specs.Extents.{InExtent}
use Rattle.encoder.specs.declared.attachment.ColorAttachment.{ColorAttachment}
use Rattle.encoder.specs.Opening.{render_pass, compute_pass, opening_records, label_records, label_short, label_text, is_extent, no_target, asks_opening}
use Rattle.encoder.specs.Putting.{event_records, frame_records, Offered}
use Rattle.encoder.proofs.Handling.{handled_asked}
use Rattle.encoder.proofs.Sizes.{event_some}
use Rattle.command_list.specs.Refusals.{Why, why_of, fault, fault_at, unless, before}
use Rattle.command_list.proofs.Refusing.{fault_by}

-- ---- the label's questions

pub label_refused : (bs : List ℕ) (f : Fault) (x : Option Why) → Refused bs f
    → before (unless (label_short (Some bs)) (fault 1 0)) (before (unless (label_text (Some bs)) (fault 2 0)) x) ≡ Some (why_of f)
label_refused bs f x r = ⊎_elim
    (λ k. ap (λ t. before (unless t (fault 1 0)) (before (unless (is_utf8 bs) (fault 2 0)) x)) (lt-leb (length bs) 256 k.1) ∙ ap Some (sym (fault_by f 1 0 k.0)))
    (λ k. ap (λ t. before (unless t (fault 1 0)) (before (unless (is_utf8 bs) (fault 2 0)) x)) (le-leb (length bs) 256 k.1)
    ∙ ap (λ t. before (unless t (fault 2 0)) x) (not_true (is_utf8 bs) (λ e. k.2 (test_formed bs e))) ∙ ap Some (sym (fault_by f 2 0 k.0))) r
  where
    not_true : (t : Bool) → (t ≡ true → ⊥) → t ≡ false
    not_true true h = absurd (h refl)
    not_true false h = refl

pub label_taken : (bs us : List ℕ) (x : Option Why) → Labelled bs us
    → before (unless (label_short (Some bs)) (fault 1 0)) (before (unless (label_text (Some bs)) (fault 2 0)) x) ≡ x
label_taken bs us x l =
    ap (λ t. before (unless t (fault 1 0)) (before (unless (is_utf8 bs) (fault 2 0)) x)) (le-leb (length bs) 256 l.short)
    ∙ ap (λ t. before (unless t (fault 2 0)) x) (formed_test bs l.formed)

-- the event of a label's units is the label's record
pub label_event : (bs us : List ℕ) → 0 < length us → us ≡ label_units bs → event_records us ≡ label_records (Some bs)
label_event bs us h e = event_some us h ∙ ap (λ x. BeginEvent x ∷ []) e

extent_test : (n : ℕ) → InExtent n → is_extent n ≡ true
extent_test n e = and_from _ _ (le-leb 1 n e.0) (le-leb n 16384 e.1)

-- the questions before the label's
pub render_asks : (null : ℕ) (bs : List ℕ) (w h : ℕ) (os : List (Option ColorAttachment)) → length os ≤ 8 → InExtent w → InExtent h
    → asks_opening null (render_pass (Some bs) w h os) ≡ before (unless (label_short (Some bs)) (fault 1 0)) (before (unless (label_text (Some bs)) (fault 2 0)) (fault_at 3 (no_target 0 null os)))
render_asks null bs w h os few wide high =
    let x = before (unless (label_short (Some bs)) (fault 1 0)) (before (unless (label_text (Some bs)) (fault 2 0)) (fault_at 3 (no_target 0 null os))) in
    ap (λ t. before (unless t (fault 1 8)) (before (unless (is_extent w && is_extent h) (fault 1 0)) x)) (le-leb (length os) 8 few)
    ∙ ap (λ t. before (unless t (fault 1 0)) x) (and_from _ _ (extent_test w wide) (extent_test h high))

before_last : (o : Option Why) → before o None ≡ o
before_last None = refl
before_last (Some f) = refl

-- the questions of a compute pass's label are these two alone
label_alone : (null : ℕ) (bs : List ℕ) → asks_opening null (compute_pass (Some bs)) ≡ before (unless (label_short (Some bs)) (fault 1 0)) (before (unless (label_text (Some bs)) (fault 2 0)) None)
label_alone null bs = ap (before (unless (label_short (Some bs)) (fault 1 0))) (sym (before_last (unless (label_text (Some bs)) (fault 2 0))))

labelled_some : (bs us : List ℕ) → Labelled bs us → 0 < length us
labelled_some bs us l = omega (arith, ap length l.units, length-append (utf16s (chars bs)) (0 ∷ []))

-- ---- openings with a label

offered_as : (p q : Option Why) (xs ys : List Command) (m : Meaning) (r : Result Unit Fault) (n : Meaning) → p ≡ q → xs ≡ ys → Offered p xs m r n → Offered q ys m r n
offered_as p q xs ys m r n e f o = subst (λ x. Offered x ys m r n) e (subst (λ x. Offered p x m r n) f o)

module _ (bs : List ℕ) (o : Option (List ℕ)) (is : o ≡ Some bs) (m : Meaning) (r : Result Unit Fault) (n : Meaning) where
  module _ (null w h : ℕ) (os : List (Option ColorAttachment)) (few : length os ≤ 8) (wide : InExtent w) (high : InExtent h) where
    pub render_no : (f : Fault) → Refused bs f → r ≡ Err f → n ≡ m → Offered (asks_opening null (render_pass o w h os)) (opening_records null (render_pass o w h os)) m r n
    render_no f no' e s =
        subst (λ x. Offered (asks_opening null (render_pass o w h os)) (opening_records null (render_pass o w h os)) m x n) (sym e)
        (handled_asked _ _ tt tt m tt n f (ap (λ x. asks_opening null (render_pass x w h os)) is ∙ render_asks null bs w h os few wide high ∙ label_refused bs f _ no') refl s)

    pub render_yes : (us : List ℕ) → Labelled bs us → (v : List ℕ) (x y : ℕ) → v ≡ us → x ≡ w → y ≡ h
        → Offered (fault_at 3 (no_target 0 null os)) (event_records v ++ frame_records null x y os) m r n
        → Offered (asks_opening null (render_pass o w h os)) (opening_records null (render_pass o w h os)) m r n
    render_yes us l v x y a b c =
        offered_as _ _ _ _ m r n
        (sym (ap (λ z. asks_opening null (render_pass z w h os)) is ∙ render_asks null bs w h os few wide high ∙ label_taken bs us _ l))
        (ap (λ z. event_records z ++ frame_records null x y os) a ∙ ap (λ z. event_records us ++ frame_records null z y os) b ∙ ap (λ z. event_records us ++ frame_records null w z os) c
        ∙ ap (λ z. z ++ frame_records null w h os) (label_event bs us (labelled_some bs us l) l.units) ∙ sym (ap (λ z. opening_records null (render_pass z w h os)) is))

  module _ (null : ℕ) where
    pub compute_no : (f : Fault) → Refused bs f → r ≡ Err f → n ≡ m → Offered (asks_opening null (compute_pass o)) (opening_records null (compute_pass o)) m r n
    compute_no f no' e s =
        subst (λ x. Offered (asks_opening null (compute_pass o)) (opening_records null (compute_pass o)) m x n) (sym e)
        (handled_asked _ _ tt tt m tt n f (ap (λ x. asks_opening null (compute_pass x)) is ∙ label_alone null bs ∙ label_refused bs f None no') refl s)

    pub compute_yes : (us : List ℕ) → Labelled bs us → (v : List ℕ) → v ≡ us
        → Offered None (event_records v ++ (SetDescriptorHeaps true ∷ [])) m r n → Offered (asks_opening null (compute_pass o)) (opening_records null (compute_pass o)) m r n
    compute_yes us l v a =
        offered_as _ _ _ _ m r n
        (sym (ap (λ z. asks_opening null (compute_pass z)) is ∙ label_alone null bs ∙ label_taken bs us None l))
        (ap (λ z. event_records z ++ (SetDescriptorHeaps true ∷ [])) a ∙ ap (λ z. z ++ (SetDescriptorHeaps true ∷ [])) (label_event bs us (labelled_some bs us l) l.units) ∙ sym (ap (λ z. opening_records null (compute_pass z)) is))
