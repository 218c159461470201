-- Commands that are recorded where their space is known.
use Rattle.std.specs.Prelude.{◌≡◌, ℕ, ◌<◌, ◌≤◌, true, cond, Some, None, Option, map, length, [], ◌∷◌, ◌++◌, List, Ok, Err, Result, slice_index, slice_index_or}
use Rattle.command_list.specs.declared.command.Half.{Half}
use Rattle.command_list.specs.declared.command.Half.TheVariants.{Graphics, Compute}
use Rattle.command_list.specs.declared.fault.Fault.{Fault}
use Rattle.command_list.specs.Commands.{Command, BeginEvent, SetDescriptorHeaps, OMSetRenderTargets, readable}
use Rattle.command_list.specs.Refusals.{Why}
use Rattle.encoder.specs.declared.attachment.ColorAttachment.{ColorAttachment}
use Rattle.encoder.specs.Handled.{Handled}
use Rattle.encoder.specs.Opening.{target_of, clears, clear_records, extent_records}
use Rattle.device.specs.Meaning.{Meaning, Recorded}

-- the commands were recorded, and not refused
abbrev pub Put : Meaning → List Command → Result Unit Fault → Meaning → Type 0
Put m cs (Ok u) n = Recorded m cs n
Put m cs (Err f) n = ⊥

-- how many words of special constants a half's passes use
abbrev pub constant_count : Half → ℕ
constant_count Graphics = 2
constant_count Compute = 3

-- the event of a label's units; no units stand for no label
abbrev pub event_records : List ℕ → List Command
event_records [] = []
event_records (u ∷ us) = BeginEvent (u ∷ us) ∷ []

-- there is no label, or its event can be recorded
abbrev pub CanBegin : List ℕ → Type 0
CanBegin [] = Unit {0}
CanBegin (u ∷ us) = (readable (BeginEvent (u ∷ us)) ≡ true) × (length (u ∷ us) ≤ 257)

-- the colour that an attachment is cleared to, if it is there and is cleared
abbrev pub colour_of : Option ColorAttachment → Option (List ℕ)
colour_of (Some a) = cond (clears a) (Some a.clear_value) None
colour_of _ = None

-- each attachment that is there has its target at its place among these handles
abbrev pub HaveTargets : List ℕ → List (Option ColorAttachment) → Type 0
HaveTargets hs os =
    (k : ℕ) (a : ColorAttachment) → k < length os → slice_index_or os k None ≡ Some a
    → slice_index hs k ≡ a.target

-- what every opening of a render pass records behind its label
abbrev pub frame_records : ℕ → ℕ → ℕ → List (Option ColorAttachment) → List Command
frame_records null w h targets =
    SetDescriptorHeaps true
    ∷ OMSetRenderTargets (map (target_of null) targets)
    ∷ (clear_records targets ++ extent_records w h)

-- a call that has no state of its own
abbrev pub Offered : Option Why → List Command → Meaning → Result Unit Fault → Meaning → Type 0
Offered asked records m r n = Handled {X = Unit} asked records tt tt m r tt n
