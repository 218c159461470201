-- Who owns a root slot of a layout, and which layouts there are.
use Rattle.std.specs.Prelude.{ℕ, zero, suc, ◌+◌, Bool, true, false, cond, not, ◌&&◌, ◌||◌, List, [], ◌∷◌, ◌++◌, length, Some, None, Option, ◌==◌, nat_le, nat_lt}
use Rattle.std.specs.List.{flat_map}
use Rattle.layouts.specs.declared.info.BindGroupInfo.{BindGroupInfo}
use Rattle.layouts.specs.declared.info.ImmediatesInfo.{ImmediatesInfo}
use Rattle.layouts.specs.declared.info.PipelineLayoutSpecialConstants.{PipelineLayoutSpecialConstants}
use Rattle.layouts.specs.declared.info.Owner.{Owner}
use Rattle.layouts.specs.declared.info.Owner.TheVariants.{Table, Uniform, Immediates, Special}
use Rattle.command_list.specs.Refusals.{Why, fault, unless, before}

-- the slot behind the group's table slot, where its uniforms begin
abbrev pub first_uniform : BindGroupInfo → ℕ
first_uniform g = g.base_root_index + cond g.table 1 0

-- the slot behind the group's last
abbrev pub behind : BindGroupInfo → ℕ
behind g = first_uniform g + g.uniforms

-- whether k is among the slots from a up to b, without b
abbrev pub among : ℕ → ℕ → ℕ → Bool
among a b k = nat_le a k && nat_lt k b

-- an owner, where a test holds
abbrev pub when : Bool → Owner → List Owner
when true o = o ∷ []
when false o = []

-- the owners of the slot k in a group: its table, then its uniforms
abbrev pub of_group : ℕ → Option BindGroupInfo → List Owner
of_group k None = []
of_group k (Some g) =
    when (among g.base_root_index (first_uniform g) k) Table
    ++ when (among (first_uniform g) (behind g) k) Uniform

abbrev pub of_groups : ℕ → List (Option BindGroupInfo) → List Owner
of_groups k gs = flat_map (of_group k) gs

-- whether the special constants have the slot k
abbrev pub special_at : Option PipelineLayoutSpecialConstants → ℕ → Bool
special_at None k = false
special_at (Some c) k = c.root_index == k

-- whether the immediates have the slot k
abbrev pub immediates_at : Option ImmediatesInfo → ℕ → Bool
immediates_at None k = false
immediates_at (Some i) k = i.root_index == k

-- all owners of the slot k
abbrev pub owners : Option PipelineLayoutSpecialConstants → Option ImmediatesInfo
    → List (Option BindGroupInfo) → ℕ → List Owner
owners special immediates groups k =
    when (special_at special k) Special
    ++ (when (immediates_at immediates k) Immediates ++ of_groups k groups)

abbrev pub first : List Owner → Option Owner
first [] = None
first (o ∷ os) = Some o

-- the owner of the slot k, if it has one
abbrev pub owner_of : Option PipelineLayoutSpecialConstants → Option ImmediatesInfo
    → List (Option BindGroupInfo) → ℕ → Option Owner
owner_of special immediates groups k = first (owners special immediates groups k)

abbrev pub is_table : Owner → Bool
is_table Table = true
is_table _ = false

abbrev pub is_uniform : Owner → Bool
is_uniform Uniform = true
is_uniform _ = false

-- whether there is an owner, of the kind that is asked for
abbrev pub owned : (Owner → Bool) → Option Owner → Bool
owned kind None = false
owned kind (Some o) = kind o

-- whether an owner of the kind is among these
abbrev pub held : (Owner → Bool) → List Owner → Bool
held kind [] = false
held kind (o ∷ os) = kind o || held kind os

-- a group without slots lies anywhere; the slots of any other are below the total
abbrev pub group_within : ℕ → Option BindGroupInfo → Bool
group_within total None = true
group_within total (Some g) = nat_le (behind g) g.base_root_index || nat_le (behind g) total

abbrev pub groups_within : ℕ → List (Option BindGroupInfo) → Bool
groups_within total [] = true
groups_within total (g ∷ gs) = group_within total g && groups_within total gs

abbrev pub special_within : ℕ → Option PipelineLayoutSpecialConstants → Bool
special_within total None = true
special_within total (Some c) = nat_lt c.root_index total

-- immediates have a slot below the total, and are 1 to 32 words
abbrev pub immediates_within : ℕ → Option ImmediatesInfo → Bool
immediates_within total None = true
immediates_within total (Some i) =
    nat_lt i.root_index total && (nat_le 1 i.size && nat_le i.size 32)

-- there are at most 64 slots, each slot with an owner is one of them, and immediates have a size
abbrev pub fits : ℕ → Option PipelineLayoutSpecialConstants → Option ImmediatesInfo
    → List (Option BindGroupInfo) → Bool
fits total special immediates groups =
    nat_le total 64
    && (special_within total special
    && (immediates_within total immediates && groups_within total groups))

-- each slot below n has one owner, and not two
unfoldable pub once_below : (ℕ → List Owner) → ℕ → Bool
once_below f zero = true
once_below f (suc n) = length (f n) == 1 && once_below f n

-- what is so of every layout
abbrev pub sound : ℕ → ℕ → Option PipelineLayoutSpecialConstants → Option ImmediatesInfo
    → List (Option BindGroupInfo) → Bool
sound signature total special immediates groups =
    not (signature == 0)
    && (fits total special immediates groups && once_below (owners special immediates groups) total)

-- why a layout of these parts is refused, if it is
abbrev pub verdict : ℕ → ℕ → Option PipelineLayoutSpecialConstants → Option ImmediatesInfo
    → List (Option BindGroupInfo) → Option Why
verdict signature total special immediates groups =
    before (unless (not (signature == 0)) (fault 1 0))
    (before (unless (fits total special immediates groups) (fault 11 0))
    (unless (once_below (owners special immediates groups) total) (fault 12 0)))
