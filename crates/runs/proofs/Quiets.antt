-- Records of the encoder that set nothing a draw is asked for.
use Rattle.std.proofs.Common.{◌≡◌, ℕ, true, List, [], ◌∷◌, Some, None, Option, refl}
use Rattle.std.proofs.lemmas.Bool.{cond_both}
use Rattle.command_list.specs.declared.command.Barrier.{Barrier}
use Rattle.device.proofs.Quiets.{are_quiet, quiet_append}
use Rattle.resources.specs.Barriers.{barriers_of}
use Rattle.resources.specs.Batches.{transition_records}
use Rattle.encoder.specs.declared.attachment.ColorAttachment.{ColorAttachment}
use Rattle.encoder.specs.Opening.{Opening, render_pass, compute_pass, label_records, clears, clear_of, clear_records, opening_records, QuietCall, transition, set_viewport, set_scissor_rect, quiet_records}

label_quiet : (o : Option (List ℕ)) → are_quiet (label_records o) ≡ true
label_quiet None = refl
label_quiet (Some bs) = refl

clears_quiet : (os : List (Option ColorAttachment)) → are_quiet (clear_records os) ≡ true
clears_quiet [] = refl
clears_quiet (None ∷ os) = clears_quiet os
clears_quiet (Some a ∷ os) =
    quiet_append (clear_of a) (clear_records os)
    (cond_both (clears a) _ [] (λ cs. are_quiet cs ≡ true) (λ _. refl) (λ _. refl)) (clears_quiet os)

pub opening_quiet : (null : ℕ) (o : Opening) → are_quiet (opening_records null o) ≡ true
opening_quiet null (render_pass label w h targets) =
    quiet_append (label_records label) _ (label_quiet label) (quiet_append (clear_records targets) _ (clears_quiet targets) refl)
opening_quiet null (compute_pass label) = quiet_append (label_records label) _ (label_quiet label) refl

transition_quiet : (es : List Barrier) → are_quiet (transition_records es) ≡ true
transition_quiet [] = refl
transition_quiet (e ∷ es) = refl

pub quiet_quiet : (q : QuietCall) → are_quiet (quiet_records q) ≡ true
quiet_quiet (transition cs len fill) = transition_quiet (barriers_of cs)
quiet_quiet (set_viewport x y w h low high) = refl
quiet_quiet (set_scissor_rect x y w h) = refl
