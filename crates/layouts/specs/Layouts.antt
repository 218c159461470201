-- What is so of every layout, in the words of its parts.
use Rattle.std.specs.Prelude.{◌≡◌, ℕ, ◌<◌, ◌≤◌, true, List, [], length, Some, None, Option, slice_index_or}
use Rattle.layouts.specs.declared.info.BindGroupInfo.{BindGroupInfo}
use Rattle.layouts.specs.declared.info.ImmediatesInfo.{ImmediatesInfo}
use Rattle.layouts.specs.declared.info.PipelineLayoutSpecialConstants.{PipelineLayoutSpecialConstants}
use Rattle.layouts.specs.declared.info.Owner.{Owner}
use Rattle.layouts.specs.declared.info.Owner.TheVariants.{Table, Uniform, Immediates, Special}
use Rattle.layouts.specs.declared.layout.PipelineLayout.{PipelineLayout}
use Rattle.layouts.specs.Owners.{first_uniform, behind, owners, owner_of}

-- all owners of a layout's slot
abbrev pub owners_in : PipelineLayout → ℕ → List Owner
owners_in l k = owners l.special_constants l.immediates_info l.bind_group_infos k

-- the owner of a layout's slot, if it has one
abbrev pub owner_in : PipelineLayout → ℕ → Option Owner
owner_in l k = owner_of l.special_constants l.immediates_info l.bind_group_infos k

-- the group at an index of a layout, if it has one there
abbrev pub group_in : PipelineLayout → ℕ → Option BindGroupInfo
group_in l j = slice_index_or l.bind_group_infos j None

-- a layout of these parts
abbrev pub HasParts : ℕ → ℕ → Option PipelineLayoutSpecialConstants → Option ImmediatesInfo
    → List (Option BindGroupInfo) → PipelineLayout → Type 0
HasParts signature total special immediates groups l =
    (l.signature ≡ signature) × (l.total_root_elements ≡ total) × (l.special_constants ≡ special)
    × (l.immediates_info ≡ immediates) × (l.bind_group_infos ≡ groups)

-- the slot k is one of the layout's, and this is its owner
abbrev pub Owns : PipelineLayout → Owner → ℕ → Type 0
Owns l o k = (k < l.total_root_elements) × (owner_in l k ≡ Some o)

-- a layout is signed, has at most 64 slots, one owner for each of them and none for others;
-- and each part owns its slots
pub record Whole (l : PipelineLayout) : Type 0 where
  pub signed : 0 < l.signature
  pub few : l.total_root_elements ≤ 64
  pub one : (k : ℕ) → k < l.total_root_elements → length (owners_in l k) ≡ 1
  pub none : (k : ℕ) → l.total_root_elements ≤ k → owners_in l k ≡ []
  pub special : (c : PipelineLayoutSpecialConstants) → l.special_constants ≡ Some c
      → Owns l Special c.root_index
  pub immediates : (i : ImmediatesInfo) → l.immediates_info ≡ Some i
      → Owns l Immediates i.root_index × ((1 ≤ i.size) × (i.size ≤ 32))
  pub table : (j : ℕ) (g : BindGroupInfo) → group_in l j ≡ Some g
      → g.table ≡ true → Owns l Table g.base_root_index
  pub uniforms : (j : ℕ) (g : BindGroupInfo) → group_in l j ≡ Some g
      → (k : ℕ) → first_uniform g ≤ k → k < behind g → Owns l Uniform k

abbrev pub EveryLayoutIsWhole : Type 0
EveryLayoutIsWhole = (l : PipelineLayout) → Whole l
