-- The plot's label and layout are made.
use Rattle.std.proofs.Common.{◌≡◌, ℕ, Bool, true, List, [], ◌∷◌, take, IfOk, Some, None, Ok, Err, Option, Result, refl, ◌∙◌, inl, inr, arith, lit<, MatchResult}
use Rattle.std.specs.Str.{chars}
use Rattle.command_list.specs.declared.fault.Fault.{Fault}
use Rattle.command_list.specs.Refusals.{fault_of, why_of}
use Rattle.command_list.proofs.Refusing.{some≢none}
use Rattle.labels.specs.declared.label.Label.{Label}
use Rattle.labels.specs.Unicode.{WellFormed}
use Rattle.labels.specs.Labels.{Labelled, Refused, label_units}
use Rattle.labels.specs.Kept.{units_of}
use Rattle.layouts.specs.declared.info.BindGroupInfo.{BindGroupInfo}
use Rattle.layouts.specs.declared.info.PipelineLayoutSpecialConstants.{PipelineLayoutSpecialConstants}
use Rattle.layouts.specs.declared.layout.PipelineLayout.{PipelineLayout}
use Rattle.layouts.specs.Owners.{once_below, verdict}
use Rattle.layouts.specs.Layouts.{HasParts}
use Rattle.runs.specs.Worked.{IsPlotted}
use Rattle.season_plot.specs.Plot.{plot_label}

-- the label's bytes
abbrev text : List ℕ
text = 0xC3 ∷ 0xA9 ∷ []

text_formed : WellFormed text
text_formed = (0xE9 ∷ [], ((inl (lit< tt), tt), refl))

text_units : label_units text ≡ plot_label
unfolding chars
text_units = refl

pub label_made : (r : Result Label Fault)
    → MatchResult r (λ l. Labelled text (take l.len l.units)) (λ f. Refused text f)
    → MatchResult r (λ l. units_of l ≡ plot_label) (λ _. ⊥)
label_made (Ok l) q = q.units ∙ text_units
label_made (Err f) (inl q) = absurd (omega (arith, q.1))
label_made (Err f) (inr q) = q.2 text_formed

-- the layout's parts
abbrev special : Bool → Option PipelineLayoutSpecialConstants
special own = Some (record { root_index = 2; own_signature = own })

abbrev groups : List (Option BindGroupInfo)
groups = Some (record { base_root_index = 0; table = true; uniforms = 1 }) ∷ None ∷ None ∷ None ∷ None ∷ None ∷ None ∷ None ∷ []

accepted : (own : Bool) → verdict 5 3 (special own) None groups ≡ None
unfolding once_below
accepted own = refl

pub layout_made : (own : Bool) (r : Result PipelineLayout Fault) → fault_of r ≡ verdict 5 3 (special own) None groups
    → IfOk r (HasParts 5 3 (special own) None groups) → MatchResult r (IsPlotted own) (λ _. ⊥)
layout_made own (Ok l) a q = record { signature = q.0; total = q.1; special = q.2; immediates = q.3; groups = q.4 }
layout_made own (Err f) a q = absurd (some≢none (why_of f) (a ∙ accepted own))
