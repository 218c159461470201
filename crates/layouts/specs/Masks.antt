-- Masks of the slots that owners of a kind have.
use Rattle.std.specs.Prelude.{◌≡◌, ℕ, Bool, ◌&&◌, List, Some, Option, nat_lt}
use Rattle.command_list.specs.Bits.{bit}
use Rattle.layouts.specs.declared.info.BindGroupInfo.{BindGroupInfo}
use Rattle.layouts.specs.declared.info.Owner.{Owner}
use Rattle.layouts.specs.Owners.{of_group, of_groups, held}

-- the mask has the slots below 64 that have an owner of the kind, and no other
abbrev pub Masks : (Owner → Bool) → (ℕ → List Owner) → ℕ → Type 0
Masks kind owners_at m = (k : ℕ) → bit m k ≡ (nat_lt k 64 && held kind (owners_at k))

-- for each kind that a group's mask is of, the mask of all groups is of this kind
abbrev pub Gathered : (BindGroupInfo → ℕ → Type 0) → List (Option BindGroupInfo) → ℕ → Type 0
Gathered one groups m =
    (kind : Owner → Bool)
    → ((g : BindGroupInfo) (n : ℕ) → one g n → Masks kind (λ k. of_group k (Some g)) n)
    → Masks kind (λ k. of_groups k groups) m
