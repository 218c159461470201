-- What a line of a script says.
use Rattle.std.specs.Prelude.{◌≡◌, ℕ, Bool, true, false, List, [], ◌∷◌, Option, Some, None, Ok, Err, Result, option_map, ok_or, if◌then◌else◌, codes, string_bytes, ◌==◌}
use Rattle.std.specs.List.{before_first}
use Rattle.std.specs.Str.{trim}
use Rattle.std.specs.Str.Iter.{split_whitespace_rest, split_whitespace_steps}
use Rattle.std.specs.Iterator.{Drains}
use Rattle.std.specs.declared.str.SplitWhitespace.{SplitWhitespace}
use Rattle.command_list.specs.declared.fault.Number.TheVariants.{Range}
use Rattle.scripts.specs.declared.not_done.NotDone.{NotDone}
use Rattle.scripts.specs.declared.not_done.NotDone.TheVariants.{BadLine, Refused, Memory}
use Rattle.scripts.specs.declared.line.LayoutParts.{LayoutParts}
use Rattle.scripts.specs.declared.line.Line.{Line}
use Rattle.scripts.specs.declared.line.Line.TheVariants as line
use Rattle.scripts.specs.Words.{Word, is, number, ◌>>=◌}
use Rattle.scripts.specs.Calls.{SaidCall, seen_call, call_said}
use Rattle.scripts.specs.Definitions.{layout_parts, strides}

-- the text up to its first '#', without the blanks round it
abbrev pub said : List ℕ → List ℕ
said text = trim (before_first (λ b. b == 35) text)

-- the words of a text, which blanks part
abbrev pub AreWords : List ℕ → List Word → Type 0
AreWords text ws =
    (s : SplitWhitespace) × ((split_whitespace_rest s ≡ text) × Drains split_whitespace_steps s ws)

-- what a line says: nothing, a definition, what the next encoding is made with, or a call
pub data SaidLine : Type 0 where
  nothing : SaidLine
  -- name, and the layout's parts
  layout : List ℕ → LayoutParts → SaidLine
  -- name, handle, the layout's name, topology, strides
  render_pipeline : List ℕ → ℕ → List ℕ → ℕ → List (Option ℕ) → SaidLine
  -- name, handle, the layout's name
  compute_pipeline : List ℕ → ℕ → List ℕ → SaidLine
  null_target : ℕ → SaidLine
  list_bytes : ℕ → SaidLine
  -- length, fill
  scratch : ℕ → ℕ → SaidLine
  call : SaidCall → SaidLine

-- a line of the program, seen so
abbrev pub seen_line : Line → SaidLine
seen_line line.Nothing = nothing
seen_line (line.Layout n p) = layout (string_bytes n) p
seen_line (line.RenderPipeline n p) =
    render_pipeline (string_bytes n) p.handle (string_bytes p.layout) p.topology p.strides
seen_line (line.ComputePipeline n p) =
    compute_pipeline (string_bytes n) p.handle (string_bytes p.layout)
seen_line (line.NullTarget t) = null_target t
seen_line (line.ListBytes n) = list_bytes n
seen_line (line.Scratch n f) = scratch n f
seen_line (line.Call c) = call (seen_call c)

-- a layout for whose parts layouts have no place is refused
abbrev pub placed : List ℕ → LayoutParts × Bool → Result SaidLine NotDone
placed name (p, true) = Ok (layout name p)
placed name (p, false) = Err (Refused (record { number = Range; place = 0 }))

abbrev pub layout_of : List ℕ → Option (LayoutParts × Bool) → Result SaidLine NotDone
layout_of name None = Err BadLine
layout_of name (Some p) = placed name p

abbrev pub layout_line : List Word → Result SaidLine NotDone
layout_line [] = Err BadLine
layout_line (n ∷ ws) = layout_of n.now (layout_parts ws)

abbrev pub render_line : List Word → Option SaidLine
render_line (n ∷ h ∷ l ∷ t ∷ ws) = do
  handle ← number 32 h.now
  topology ← number 32 t.now
  all ← strides ws
  Some (render_pipeline n.now handle l.now topology all)
render_line ws = None

abbrev pub compute_line : List Word → Option SaidLine
compute_line (n ∷ h ∷ l ∷ []) = do
  handle ← number 32 h.now
  Some (compute_pipeline n.now handle l.now)
compute_line ws = None

-- a number of 64 bits, and no other word
abbrev pub number_alone : List Word → Option ℕ
number_alone (w ∷ []) = number 64 w.now
number_alone ws = None

abbrev pub scratch_line : List Word → Option SaidLine
scratch_line (a ∷ b ∷ []) = do
  length ← number 64 a.now
  fill ← number 64 b.now
  Some (scratch length fill)
scratch_line ws = None

-- what the words of a line say, but for a layout
abbrev pub other_line : Word → List Word → Option SaidLine
other_line verb ws =
    if is (codes "render_pipeline") verb then render_line ws
    else if is (codes "compute_pipeline") verb then compute_line ws
    else if is (codes "null_target") verb
    then option_map (λ n. null_target n) (number_alone ws)
    else if is (codes "list_bytes") verb
    then option_map (λ n. list_bytes n) (number_alone ws)
    else if is (codes "scratch") verb then scratch_line ws
    else option_map (λ c. call c) (call_said verb ws)

-- what the words of a line say: a verb, and its operands
abbrev pub line_said : List Word → Result SaidLine NotDone
line_said [] = Err BadLine
line_said (verb ∷ ws) =
    if is (codes "layout") verb then layout_line ws else ok_or (other_line verb ws) BadLine

-- the line that is read, or why none is, is what the words say; no memory may be left for it
abbrev pub ReadsLine : Result SaidLine NotDone → Result Line NotDone → Type 0
ReadsLine r (Ok l) = r ≡ Ok (seen_line l)
ReadsLine r (Err (Memory e)) = Unit {0}
ReadsLine r (Err e) = r ≡ Err e

-- what is read of a text: nothing of an empty one, else what its words say
unfoldable pub ReadsText : List ℕ → Result Line NotDone → Type 0
ReadsText [] r = r ≡ Ok line.Nothing
ReadsText (b ∷ bs) (Err (Memory e)) = Unit {0}
ReadsText (b ∷ bs) r = (ws : List Word) × (AreWords (b ∷ bs) ws × ReadsLine (line_said ws) r)
