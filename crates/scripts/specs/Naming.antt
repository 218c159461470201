-- What a definition makes of the names before it.
use Rattle.std.specs.Prelude.{◌≡◌, ℕ, List, Option, Some, None, Ok, Err, Result, String, string_bytes}
use Rattle.std.specs.BTreeMap.{BTreeMap, get_by_text}
use Rattle.std.specs.Map.{update}
use Rattle.std.specs.Str.{bytes_eq}
use Rattle.layouts.specs.declared.layout.PipelineLayout.{PipelineLayout}
use Rattle.layouts.specs.declared.pipeline.RenderPipeline.{RenderPipeline}
use Rattle.layouts.specs.declared.pipeline.ComputePipeline.{ComputePipeline}
use Rattle.layouts.specs.Layouts.{HasParts}
use Rattle.layouts.specs.Owners.{verdict}
use Rattle.command_list.specs.Refusals.{Why, why_of}
use Rattle.scripts.specs.declared.line.LayoutParts.{LayoutParts}
use Rattle.scripts.specs.declared.line.RenderParts.{RenderParts}
use Rattle.scripts.specs.declared.line.ComputeParts.{ComputeParts}
use Rattle.scripts.specs.declared.not_done.NotDone.{NotDone}
use Rattle.scripts.specs.declared.not_done.NotDone.TheVariants.{Unknown, Refused, Memory}

-- names of one kind, and what they stand for
abbrev pub Defined : Type 0 → Type 0 → Type 0
Defined Y X = BTreeMap (String Y) X

-- the name stands for the value now, and each other name for what it stood for before
abbrev pub Defines : {X Y : Type 0} → List ℕ → X → Defined Y X → Defined Y X → Type 0
Defines name value old new =
    (q : List ℕ) → get_by_text new q ≡ update bytes_eq (get_by_text old) name (Some value) q

-- the name stands for a layout of these parts
abbrev pub DefinesLayout : {Y : Type 0} → List ℕ → LayoutParts
    → Defined Y PipelineLayout → Defined Y PipelineLayout → Type 0
DefinesLayout name p old new =
    (l : PipelineLayout)
    × (HasParts p.signature p.total p.special p.immediates p.groups l × Defines name l old new)

-- a pipeline of these parts, over a layout
abbrev pub render_of : RenderParts → PipelineLayout → RenderPipeline
render_of p l =
    record { handle = p.handle; layout = l; topology = p.topology; vertex_strides = p.strides }

abbrev pub compute_of : ComputeParts → PipelineLayout → ComputePipeline
compute_of p l = record { handle = p.handle; layout = l }

-- the name stands for a pipeline over the layout that the layout's name stands for
abbrev pub DefinesPipeline : {X Y : Type 0} → (PipelineLayout → X) → List ℕ → List ℕ
    → Defined Y PipelineLayout → Defined Y X → Defined Y X → Type 0
DefinesPipeline made layout name layouts old new =
    (l : PipelineLayout)
    × ((get_by_text layouts layout ≡ Some l) × Defines name (made l) old new)

-- every name stands for what it stood for
abbrev pub Keeps : {X Y : Type 0} → Defined Y X → Defined Y X → Type 0
Keeps old new = (q : List ℕ) → get_by_text new q ≡ get_by_text old q

-- the refusal of an answer, if it is one
abbrev pub told : {X : Type 0} → Result X NotDone → Option Why
told (Err (Refused f)) = Some (why_of f)
told _ = None

-- a name that stands for nothing is told as unknown, unless no memory is left to tell it
abbrev pub Unfound : {X Y : Type 0} → Defined Y X → List ℕ → NotDone → Type 0
Unfound named name (Unknown s) = (string_bytes s ≡ name) × (get_by_text named name ≡ None)
Unfound named name (Memory e) = Unit {0}
Unfound named name _ = ⊥

-- the answer to the question what a name stands for
abbrev pub Finds : {X Y : Type 0} → Defined Y X → List ℕ → Result X NotDone → Type 0
Finds named name (Ok v) = get_by_text named name ≡ Some v
Finds named name (Err e) = (get_by_text named name ≡ None) × Unfound named name e

-- why the parts are refused, if they are
abbrev pub verdict_of : LayoutParts → Option Why
verdict_of p = verdict p.signature p.total p.special p.immediates p.groups
