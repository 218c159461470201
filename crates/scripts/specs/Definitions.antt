-- What the words of a definition say.
use Rattle.std.specs.Prelude.{ℕ, Bool, true, false, ◌&&◌, List, [], ◌∷◌, replicate, slice_set, Option, Some, None, if◌then◌else◌, nat_lt, codes}
use Rattle.std.specs.List.{slice_get}
use Rattle.layouts.specs.declared.info.BindGroupInfo.{BindGroupInfo}
use Rattle.scripts.specs.declared.definitions.Part.{Part}
use Rattle.scripts.specs.declared.definitions.Part.TheVariants.{Special, Immediates, Group}
use Rattle.scripts.specs.declared.definitions.Stride.{Stride}
use Rattle.scripts.specs.declared.line.LayoutParts.{LayoutParts}
use Rattle.scripts.specs.Words.{Word, is, number, ◌>>=◌}
use Rattle.scripts.specs.Fronts.{Front, all}

-- the special constants at a slot
abbrev pub special : Bool → ℕ → Word → Option (Part × ℕ)
special own width s = do
  slot ← number 32 s.now
  Some (Special (record { root_index = slot; own_signature = own }), width)

-- the slot, and perhaps the word for a command signature of the layout's own
abbrev pub special_part : List Word → Option (Part × ℕ)
special_part [] = None
special_part (s ∷ []) = special false 2 s
special_part (s ∷ o ∷ ws) = if is (codes "own") o then special true 3 s else special false 2 s

-- the slot, and how many words
abbrev pub immediates_part : List Word → Option (Part × ℕ)
immediates_part (s ∷ n ∷ ws) = do
  slot ← number 32 s.now
  size ← number 32 n.now
  Some (Immediates (record { root_index = slot; size = size }), 3)
immediates_part ws = None

-- whether a group has a table
abbrev pub is_table : Word → Option Bool
is_table k =
    if is (codes "table") k then Some true
    else if is (codes "plain") k then Some false else None

-- the group's index, its first slot, whether it has a table, and how many uniforms
abbrev pub group_part : List Word → Option (Part × ℕ)
group_part (i ∷ b ∷ k ∷ u ∷ ws) = do
  base ← number 32 b.now
  table ← is_table k
  uniforms ← number 32 u.now
  index ← number 32 i.now
  Some (Group index (record { base_root_index = base; table = table; uniforms = uniforms }), 5)
group_part ws = None

-- a part of a layout
abbrev pub part : Front Part
part [] = None
part (k ∷ ws) =
    if is (codes "special") k then special_part ws
    else if is (codes "immediates") k then immediates_part ws
    else if is (codes "group") k then group_part ws
    else None

-- a group at an index that has none so far
abbrev pub place_group : LayoutParts → ℕ → BindGroupInfo → Option (Option BindGroupInfo)
    → Option (LayoutParts × Bool)
place_group p i g None = Some (p, false)
place_group p i g (Some (Some old)) = None
place_group p i g (Some None) = Some (record p { groups = slice_set p.groups i (Some g) }, true)

-- one part more, and whether layouts have a place for it; of special constants and of immediates
-- the last count, and no group may come twice
abbrev pub place : LayoutParts → Part → Option (LayoutParts × Bool)
place p (Special s) = Some (record p { special = Some s }, true)
place p (Immediates i) = Some (record p { immediates = Some i }, true)
place p (Group i g) = place_group p i g (slice_get p.groups i)

unfoldable pub place_all : LayoutParts → List Part → Option (LayoutParts × Bool)
place_all p [] = Some (p, true)
place_all p (x ∷ xs) = do
  one ← place p x
  others ← place_all one.0 xs
  Some (others.0, one.1 && others.1)

-- a layout without its parts
abbrev pub bare_layout : ℕ → ℕ → LayoutParts
bare_layout signature total =
    record {
      signature = signature;
      total = total;
      special = None;
      immediates = None;
      groups = replicate 8 None;
    }

-- the parts of a layout, and whether layouts have a place for each
abbrev pub layout_parts : List Word → Option (LayoutParts × Bool)
layout_parts (s ∷ t ∷ ws) = do
  signature ← number 32 s.now
  total ← number 32 t.now
  parts ← all part ws
  place_all (bare_layout signature total) parts
layout_parts ws = None

-- the stride of a vertex slot
abbrev pub stride : Front Stride
stride (k ∷ s ∷ b ∷ ws) =
    if is (codes "stride") k then (do
      slot ← number 64 s.now
      bytes ← number 32 b.now
      if nat_lt slot 16 then Some (record { slot = slot; bytes = bytes }, 3) else None)
    else None
stride ws = None

-- the strides of sixteen vertex slots; of two for one slot the last counts
unfoldable pub put_strides : List (Option ℕ) → List Stride → List (Option ℕ)
put_strides strides [] = strides
put_strides strides (x ∷ xs) = put_strides (slice_set strides x.slot (Some x.bytes)) xs

abbrev pub strides : List Word → Option (List (Option ℕ))
strides ws = do
  all ← all stride ws
  Some (put_strides (replicate 16 None) all)
