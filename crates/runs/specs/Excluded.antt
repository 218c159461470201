-- Encoders that the contracts exclude.
use Rattle.std.specs.Prelude.{◌≡◌, ℕ, ◌<◌, ◌≤◌, Bool, true, false, List, ◌∷◌, ◌++◌, None, ◌≢◌}
use Rattle.device.specs.Meaning.{sizes}
use Rattle.passes.specs.Calls.{DrawCall, prepared}
use Rattle.encoder.specs.Scenes.{Call, drawing, idle, account_of, offers, records, asks, start_of, Answer, taken, is_taken, Scene, Does}
use Rattle.runs.specs.Marks.{Moment, Run, device_before, device_after, account_at}

-- none accepts a draw and leaves its recorder as it was
abbrev pub NoSilentDraw : Type 0
NoSilentDraw = (s t : Scene) (c : DrawCall) → Does s (drawing c) taken t → t.meaning ≢ s.meaning

-- none refuses a call that it offers, of which every question says yes and whose records fit the space
abbrev pub NoNeedlessRefusal : Type 0
NoNeedlessRefusal =
    (s t : Scene) (c : Call) (a : Answer) → Does s c a t → offers s.stage c ≡ true → asks s.own c (account_of s.stage) ≡ None
    → sizes (records s.own c (account_of s.stage)) ≤ (start_of c s.meaning).space → is_taken a ≢ false

-- of each accepted draw of each run
abbrev pub OfDraws : (DrawCall → Moment → Type 0) → Type 0
OfDraws P =
    (s : Scene) (run : List Moment) (t : Scene) → s.stage ≡ idle → Run s run t
    → (past : List Moment) (m : Moment) (rest : List Moment) (c : DrawCall) → run ≡ past ++ (m ∷ rest) → m.call ≡ drawing c → m.answer ≡ taken → P c m

-- a root slot is touched when a draw comes to it, or by its own constants
abbrev pub is_touched : DrawCall → Moment → ℕ → Bool
is_touched c m k = (prepared c (account_at m).roots).touched k

-- how often a root slot of the pass's half was written, before the call and after it
abbrev pub writes_before : Moment → ℕ → ℕ
writes_before m k = ((device_before m).halves (account_at m).half).writes k

abbrev pub writes_after : Moment → ℕ → ℕ
writes_after m k = ((device_after m).halves (account_at m).half).writes k

-- none leaves a touched slot unwritten, at its first draw or at a later one
abbrev pub NoStaleSlot : Type 0
NoStaleSlot = OfDraws (λ c m. (k : ℕ) → is_touched c m k ≡ true → writes_after m k ≢ writes_before m k)

abbrev pub NoStaleView : Type 0
NoStaleView = OfDraws (λ c m. (i : ℕ) → (account_at m).vertices.touched i ≡ true → (device_after m).vertex_writes i ≢ (device_before m).vertex_writes i)

-- none writes a slot that is not touched
abbrev pub NoNeedlessWrite : Type 0
NoNeedlessWrite = OfDraws (λ c m. (k : ℕ) → is_touched c m k ≡ false → writes_before m k < writes_after m k → ⊥)

abbrev pub NoNeedlessView : Type 0
NoNeedlessView = OfDraws (λ c m. (i : ℕ) → (account_at m).vertices.touched i ≡ false → (device_before m).vertex_writes i < (device_after m).vertex_writes i → ⊥)

pub record BadEncodersAreExcluded : Type 0 where
  pub silent : NoSilentDraw
  pub refusing : NoNeedlessRefusal
  pub stale : NoStaleSlot
  pub stale_view : NoStaleView
  pub rewriting : NoNeedlessWrite
  pub rewriting_view : NoNeedlessView
