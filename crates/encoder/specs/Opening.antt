-- Openings and endings of passes, and the calls that set nothing a draw is asked for.
use Rattle.std.specs.Prelude.{ℕ, ◌+◌, ◌^◌, Bool, true, false, cond, ◌&&◌, ◌||◌, List, [], ◌∷◌, ◌++◌, map, length, Some, None, Option, ◌==◌, nat_le, nat_lt, slice_index}
use Rattle.command_list.specs.declared.command.Half.{Half}
use Rattle.command_list.specs.declared.command.Half.TheVariants.{Graphics, Compute}
use Rattle.command_list.specs.Bits.{bit}
use Rattle.command_list.specs.Commands.{Command, BeginEvent, EndEvent, SetDescriptorHeaps, OMSetRenderTargets, ClearRenderTargetView, RSSetViewports, RSSetScissorRects}
use Rattle.labels.specs.Utf8.{is_utf8}
use Rattle.labels.specs.Labels.{label_units}
use Rattle.resources.specs.Barriers.{Change, barriers_of, in_range, present}
use Rattle.resources.specs.Batches.{transition_records}
use Rattle.bindings.specs.Extents.{single}
use Rattle.passes.specs.Calls.{is_handle}
use Rattle.encoder.specs.declared.attachment.ColorAttachment.{ColorAttachment}
use Rattle.command_list.specs.Refusals.{Why, first_from, fault, unless, before, fault_at}

-- the opening of a pass: a label's bytes, if it has one; for a render pass its width and height and
-- its attachments, of which some may be left out
pub data Opening : Type 0 where
  render_pass : Option (List ℕ) → ℕ → ℕ → List (Option ColorAttachment) → Opening
  compute_pass : Option (List ℕ) → Opening

abbrev pub half_of : Opening → Half
half_of (render_pass label w h targets) = Graphics
half_of _ = Compute

abbrev pub label_of : Opening → Option (List ℕ)
label_of (render_pass label w h targets) = label
label_of (compute_pass label) = label

abbrev pub is_labelled : Option (List ℕ) → Bool
is_labelled (Some bs) = true
is_labelled _ = false

abbrev pub label_records : Option (List ℕ) → List Command
label_records (Some bs) = BeginEvent (label_units bs) ∷ []
label_records _ = []

-- the target of an attachment, or the null target where it is left out
abbrev pub target_of : ℕ → Option ColorAttachment → ℕ
target_of null (Some a) = a.target
target_of null _ = null

-- the flag LOAD_CLEAR, whose value is 2, is among the ops
abbrev pub clears : ColorAttachment → Bool
clears a = bit a.ops 1

-- the clear of a target to a colour
abbrev pub clear_to : ℕ → List ℕ → Command
clear_to t c =
    ClearRenderTargetView t (slice_index c 0) (slice_index c 1) (slice_index c 2) (slice_index c 3)

abbrev pub clear_of : ColorAttachment → List Command
clear_of a = cond (clears a) (clear_to a.target a.clear_value ∷ []) []

abbrev pub clear_records : List (Option ColorAttachment) → List Command
clear_records (Some a ∷ as') = clear_of a ++ clear_records as'
clear_records (_ ∷ as') = clear_records as'
clear_records [] = []

-- a viewport over the whole extent, with depths from 0 to 1, and a scissor rectangle over it
abbrev pub extent_records : ℕ → ℕ → List Command
extent_records w h =
    RSSetViewports (single 0) (single 0) (single w) (single h) (single 0) (single 1)
    ∷ RSSetScissorRects 0 0 w h
    ∷ []

-- what an opening records
abbrev pub opening_records : ℕ → Opening → List Command
opening_records null (render_pass label w h targets) =
    label_records label
    ++ (SetDescriptorHeaps true
    ∷ OMSetRenderTargets (map (target_of null) targets)
    ∷ (clear_records targets ++ extent_records w h))
opening_records null (compute_pass label) = label_records label ++ (SetDescriptorHeaps true ∷ [])

-- what an ending records
abbrev pub ending_records : Bool → List Command
ending_records labelled = SetDescriptorHeaps false ∷ cond labelled (EndEvent ∷ []) []

-- ---- the checks of an opening

abbrev pub label_short : Option (List ℕ) → Bool
label_short (Some bs) = nat_le (length bs) 256
label_short _ = true

abbrev pub label_text : Option (List ℕ) → Bool
label_text (Some bs) = is_utf8 bs
label_text _ = true

abbrev pub is_extent : ℕ → Bool
is_extent n = nat_le 1 n && nat_le n 16384

-- the index of the first attachment whose target, or the null target in its place, is 0; counted
-- from i on
abbrev pub no_target : ℕ → ℕ → List (Option ColorAttachment) → Option ℕ
no_target i null os = first_from i (λ o. is_handle (target_of null o)) os

abbrev pub asks_opening : ℕ → Opening → Option Why
asks_opening null (render_pass label w h targets) =
    before (unless (nat_le (length targets) 8) (fault 1 8))
    (before (unless (is_extent w && is_extent h) (fault 1 0))
    (before (unless (label_short label) (fault 1 0))
    (before (unless (label_text label) (fault 2 0))
    (fault_at 3 (no_target 0 null targets)))))
asks_opening null (compute_pass label) =
    before (unless (label_short label) (fault 1 0)) (unless (label_text label) (fault 2 0))

-- ---- quiet calls

-- the calls of a pass or a list that record what they say, and set nothing that a draw is asked for
pub data QuietCall : Type 0 where
  -- changes of usage, of buffers or of textures, with the scratch's length and fill
  transition : List Change → ℕ → ℕ → QuietCall
  -- six float patterns: x, y, width, height, least and greatest depth
  set_viewport : ℕ → ℕ → ℕ → ℕ → ℕ → ℕ → QuietCall
  -- x, y, width, height
  set_scissor_rect : ℕ → ℕ → ℕ → ℕ → QuietCall

abbrev pub quiet_records : QuietCall → List Command
quiet_records (transition cs len fill) = transition_records (barriers_of cs)
quiet_records (set_viewport x y w h low high) = RSSetViewports x y w h low high ∷ []
quiet_records (set_scissor_rect x y w h) = RSSetScissorRects x y (x + w) (y + h) ∷ []

-- the barriers to be made have room from the fill on, in a scratch no longer than 2048 entries
abbrev pub scratch_takes : ℕ → ℕ → ℕ → Bool
scratch_takes len fill made = nat_le len 2048 && (made == 0 || nat_le (fill + made) len)

abbrev pub asks_quiet : QuietCall → Option Why
asks_quiet (transition cs len fill) =
    before (fault_at 1 (first_from 0 in_range cs))
    (before (fault_at 3 (first_from 0 present cs))
    (unless (scratch_takes len fill (length (barriers_of cs))) (fault 9 0)))
asks_quiet (set_scissor_rect x y w h) =
    unless (nat_lt (x + w) (2 ^ 31) && nat_lt (y + h) (2 ^ 31)) (fault 5 0)
asks_quiet _ = None
