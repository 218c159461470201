-- The sizes of the records of openings and endings.
use Rattle.std.proofs.Common.{◌≡◌, ℕ, zero, suc, ◌+◌, ◌*◌, ◌≤◌, Bool, true, false, cond, not, eqb, ◌<◌, List, [], ◌∷◌, ◌++◌, length, take, drop, get_or, map, bit_and, Ok, Err, Result, Some, None, Option, ap, sym, refl, ◌∙◌, arith}
use Rattle.std.specs.Prelude.{slice_index}
use Rattle.std.specs.Int.{bit_at}
use Rattle.std.proofs.lemmas.Bool.{le-leb}
use Rattle.std.proofs.lemmas.List.{append-nil, drop_more, length-map, get_or-take, get_or-map}
use Rattle.std.proofs.lemmas.Nat.Bits.{and_pow, bit_at-lt}
use Rattle.std.proofs.lemmas.Option.{same_Some}
use Rattle.command_list.specs.Bits.{bit}
use Rattle.command_list.proofs.Refusing.{some≢none}
use Rattle.command_list.specs.Commands.{Command, BeginEvent, SetDescriptorHeaps, OMSetRenderTargets, RSSetViewports, RSSetScissorRects, unit, handle, size, readable}
use Rattle.device.specs.Meaning.{Meaning, Recorded, sizes}
use Rattle.device.proofs.Runs.{sizes_append, recorded_then}
use Rattle.encoder.specs.declared.attachment.ColorAttachment.{ColorAttachment}
use Rattle.encoder.specs.Opening.{target_of, clears, clear_to, clear_of, clear_records}
use Rattle.encoder.specs.Putting.{Put, Offered, event_records, CanBegin, frame_records, colour_of, HaveTargets}
use Rattle.command_list.specs.declared.fault.Fault.{Fault}
use Rattle.command_list.specs.Refusals.{Why}
use Rattle.bindings.specs.Extents.{single}
use Rattle.encoder.proofs.Handling.{handled_taken}
use Rattle.list_writer.proofs.Rows.{total_entries}
use Rattle.list_writer.proofs.Readable.{readable_targets}

-- ---- targets

pub targets_size : (hs : List ℕ) → size (OMSetRenderTargets hs) ≡ 4 + 8 * length hs
targets_size hs = let t = total_entries handle 8 (λ h. refl) hs in omega (arith, t)

pub targets_readable : (hs : List ℕ) → length hs ≤ 8 → readable (OMSetRenderTargets hs) ≡ true
targets_readable hs h = sym (readable_targets hs) ∙ le-leb (length hs) 8 h

-- ---- clears

clears_cons : (o : Option ColorAttachment) (os : List (Option ColorAttachment)) → clear_records (o ∷ os) ≡ clear_records (o ∷ []) ++ clear_records os
clears_cons None os = refl
clears_cons (Some a) os = ap (λ cs. cs ++ clear_records os) (sym (append-nil (clear_of a)))

-- the first clear, and those behind it
pub clears_next : (xs : List (Option ColorAttachment)) (i : ℕ) → i < length xs → clear_records (drop i xs) ≡ clear_records (get_or xs i None ∷ []) ++ clear_records (drop (i + 1) xs)
clears_next xs i h = ap clear_records (drop_more xs i None h) ∙ clears_cons (get_or xs i None) (drop (i + 1) xs)

pub clears_next_size : (xs : List (Option ColorAttachment)) (i : ℕ) → i < length xs → sizes (clear_records (drop i xs)) ≡ sizes (clear_records (get_or xs i None ∷ [])) + sizes (clear_records (drop (i + 1) xs))
clears_next_size xs i h = ap sizes (clears_next xs i h) ∙ sizes_append (clear_records (get_or xs i None ∷ [])) (clear_records (drop (i + 1) xs))

-- a flag among others, as the code tests it
pub flagged : (m : ℕ) → not (eqb (bit_and m 2) 0) ≡ bit m 1
unfolding bit
flagged m = by (bit_at m 1) (bit_at-lt m 1) (and_pow m 1)
  where
    by : (d : ℕ) → d < 2 → bit_and m 2 ≡ d * 2 → not (eqb (bit_and m 2) 0) ≡ eqb d 1
    by zero h e = ap (λ x. not (eqb x 0)) e
    by (suc zero) h e = ap (λ x. not (eqb x 0)) e
    by (suc (suc d)) h e = absurd (omega (arith, h))

-- an attachment with a colour is there, and is cleared to it
coloured : (o : Option ColorAttachment) (c : List ℕ) → colour_of o ≡ Some c → (a : ColorAttachment) × (o ≡ Some a) × (clear_records (o ∷ []) ≡ clear_to a.target c ∷ [])
coloured None c e = absurd (some≢none c (sym e))
coloured (Some a) c e = by (clears a) refl e
  where
    by : (t : Bool) → clears a ≡ t → cond t (Some a.clear_value) None ≡ Some c → (b : ColorAttachment) × (Some a ≡ Some b) × (clear_records (Some a ∷ []) ≡ clear_to b.target c ∷ [])
    by true q e = (a, refl, ap (λ t. cond t (clear_to a.target a.clear_value ∷ []) [] ++ []) q ∙ ap (λ x. clear_to a.target x ∷ []) (same_Some _ _ e))
    by false q e = absurd (some≢none c (sym e))

uncoloured : (o : Option ColorAttachment) → colour_of o ≡ None → clear_records (o ∷ []) ≡ []
uncoloured None e = refl
uncoloured (Some a) e = by (clears a) refl e
  where
    by : (t : Bool) → clears a ≡ t → cond t (Some a.clear_value) None ≡ None → clear_records (Some a ∷ []) ≡ []
    by true q e = absurd (some≢none a.clear_value e)
    by false q e = ap (λ t. cond t (clear_to a.target a.clear_value ∷ []) [] ++ []) q

module _ (xs : List (Option ColorAttachment)) (i : ℕ) (h : i < length xs) where
  -- a clear of the target at its place, and those behind it
  pub clear_here : (hs : List ℕ) → HaveTargets hs xs → (c : List ℕ) → colour_of (get_or xs i None) ≡ Some c
      → clear_records (drop i xs) ≡ (clear_to (slice_index hs i) c ∷ []) ++ clear_records (drop (i + 1) xs)
  clear_here hs has c e =
      let o = coloured (get_or xs i None) c e in
      clears_next xs i h ∙ ap (λ cs. cs ++ clear_records (drop (i + 1) xs)) (o.2 ∙ ap (λ t. clear_to t c ∷ []) (sym (has i o.0 h o.1)))

  pub clear_none : colour_of (get_or xs i None) ≡ None → clear_records (drop i xs) ≡ [] ++ clear_records (drop (i + 1) xs)
  clear_none e = clears_next xs i h ∙ ap (λ cs. cs ++ clear_records (drop (i + 1) xs)) (uncoloured (get_or xs i None) e)

-- the targets that are bound are the attachments' own, where those are there
pub have_targets : (null : ℕ) (hs : List ℕ) (os : List (Option ColorAttachment)) → take (length os) hs ≡ map (target_of null) os → HaveTargets hs os
have_targets null hs os e k a h q =
    sym (get_or-take (length os) hs k 0 h) ∙ ap (λ l. get_or l k 0) e ∙ get_or-map (target_of null) os k None 0 h ∙ ap (target_of null) q

-- ---- events

pub event_size_is : (us : List ℕ) → 0 < length us → sizes (event_records us) ≡ 3 + 2 * length us
event_size_is [] h = absurd (omega (arith, h))
event_size_is (u ∷ us) h = let t = total_entries unit 2 (λ u. refl) (u ∷ us) in omega (arith, t)

pub event_none : (us : List ℕ) → length us ≡ 0 → event_records us ≡ []
event_none [] h = refl
event_none (u ∷ us) h = absurd (omega (arith, h))

pub event_some : (us : List ℕ) → 0 < length us → event_records us ≡ BeginEvent us ∷ []
event_some [] h = absurd (omega (arith, h))
event_some (u ∷ us) h = refl

pub begins : (us : List ℕ) → 0 < length us → CanBegin us → (readable (BeginEvent us) ≡ true) × (length us ≤ 257)
begins [] h c = absurd (omega (arith, h))
begins (u ∷ us) h c = c

-- ---- the whole of an opening

pub render_size : (us : List ℕ) (null w h : ℕ) (os : List (Option ColorAttachment))
    → sizes (event_records us ++ frame_records null w h os) ≡ sizes (event_records us) + (4 + (4 + 8 * length os) + sizes (clear_records os) + 46)
render_size us null w h os =
    let last : List Command = RSSetViewports (single 0) (single 0) (single w) (single h) (single 0) (single 1) ∷ RSSetScissorRects 0 0 w h ∷ [] in
    let t = targets_size (map (target_of null) os) in
    let n = length-map os (target_of null) in
    omega (arith, sizes_append (event_records us) (frame_records null w h os), sizes_append (clear_records os) last, t, n)

-- the records of an opening, one behind the other
pub render_recorded : (us : List ℕ) (null w h : ℕ) (os : List (Option ColorAttachment)) (m₀ m₁ m₂ m₃ m₄ m₅ m₆ : Meaning)
    → Recorded m₀ (event_records us) m₁ → Recorded m₁ (SetDescriptorHeaps true ∷ []) m₂ → Recorded m₂ (OMSetRenderTargets (map (target_of null) os) ∷ []) m₃ → Recorded m₃ (clear_records os) m₄
    → Recorded m₄ (RSSetViewports (single 0) (single 0) (single w) (single h) (single 0) (single 1) ∷ []) m₅ → Recorded m₅ (RSSetScissorRects 0 0 w h ∷ []) m₆
    → Recorded m₀ (event_records us ++ frame_records null w h os) m₆
render_recorded us null w h os m₀ m₁ m₂ m₃ m₄ m₅ m₆ event heaps targets clears view scissor =
    let end = recorded_then m₄ m₅ m₆ (RSSetViewports (single 0) (single 0) (single w) (single h) (single 0) (single 1) ∷ []) (RSSetScissorRects 0 0 w h ∷ []) view scissor in
    let drawn = recorded_then m₃ m₄ m₆ (clear_records os) _ clears end in
    let bound = recorded_then m₂ m₃ m₆ (OMSetRenderTargets (map (target_of null) os) ∷ []) _ targets drawn in
    recorded_then m₀ m₁ m₆ (event_records us) (frame_records null w h os) event (recorded_then m₁ m₂ m₆ (SetDescriptorHeaps true ∷ []) _ heaps bound)

-- what was put last ends a call that was asked and has room
pub offered_put : (asked : Option Why) (all cs : List Command) (m n k : Meaning) (r : Result Unit Fault) → asked ≡ None → sizes all ≤ m.space → (Recorded n cs k → Recorded m all k) → Put n cs r k → Offered asked all m r k
offered_put asked all cs m n k (Ok u) q h f p = handled_taken asked all tt tt m tt k q h refl (f p)
offered_put asked all cs m n k (Err e) q h f p = absurd p
