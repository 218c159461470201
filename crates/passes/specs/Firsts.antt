-- What the places of refusals say: which address is too far, and which slot is unfit.
use Rattle.std.specs.Prelude.{◌≡◌, ℕ, ◌^◌, ◌<◌, ◌≤◌, true, false, List, length, Some, None, Option, slice_index}
use Rattle.layouts.specs.declared.info.Owner.{Owner}
use Rattle.layouts.specs.declared.layout.PipelineLayout.{PipelineLayout}
use Rattle.layouts.specs.Layouts.{owner_in}
use Rattle.passes.specs.declared.element.RootElement.{RootElement}
use Rattle.passes.specs.Account.{is_of, unfit}
use Rattle.passes.specs.Calls.{too_far}

-- ---- addresses

-- the address at i is not below 2 ^ 64, and each before it is
pub record FirstFar (xs : List ℕ) (i : ℕ) : Type 0 where
  pub within : i < length xs
  pub far : 2 ^ 64 ≤ slice_index xs i
  pub near_before : (k : ℕ) → k < i → slice_index xs k < 2 ^ 64

-- what the index of the first address that is too far, or none, says of the addresses
abbrev pub FarAt : List ℕ → Option ℕ → Type 0
FarAt xs None = (k : ℕ) → k < length xs → slice_index xs k < 2 ^ 64
FarAt xs (Some i) = FirstFar xs i

-- ---- slots

-- the element at a slot is of its owner's kind
abbrev pub IsFit : PipelineLayout → (ℕ → RootElement) → ℕ → Type 0
IsFit l f k = (o : Owner) → owner_in l k ≡ Some o → is_of o (f k) ≡ true

-- the slot k has an owner, its element is not of that owner's kind, and each slot below has one of
-- its owner's kind
pub record FirstUnfit (l : PipelineLayout) (f : ℕ → RootElement) (n k : ℕ) : Type 0 where
  pub within : k < n
  pub owner : Owner
  pub owned : owner_in l k ≡ Some owner
  pub unlike : is_of owner (f k) ≡ false
  pub fit_below : (j : ℕ) → j < k → IsFit l f j

-- what the first unfit of n slots, or none, says of them
abbrev pub UnfitAt : PipelineLayout → (ℕ → RootElement) → ℕ → Option ℕ → Type 0
UnfitAt l f n None = (k : ℕ) → k < n → IsFit l f k
UnfitAt l f n (Some k) = FirstUnfit l f n k

-- ---- the law

pub record RefusalsAreFirst : Type 0 where
  pub addresses : (xs : List ℕ) → FarAt xs (too_far 0 xs)
  pub slots : (l : PipelineLayout) (f : ℕ → RootElement) (n : ℕ) → UnfitAt l f n (unfit l f 0 n)
