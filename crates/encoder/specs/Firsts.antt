-- What the place of a refusal says: which attachment has no target.
use Rattle.std.specs.Prelude.{◌≡◌, ℕ, ◌<◌, List, length, Some, None, Option, slice_index_or}
use Rattle.encoder.specs.declared.attachment.ColorAttachment.{ColorAttachment}
use Rattle.encoder.specs.Opening.{target_of, no_target}

-- the attachment at k has a target, or the null target in its place: a handle above 0
abbrev pub HasTarget : ℕ → List (Option ColorAttachment) → ℕ → Type 0
HasTarget null os k = 0 < target_of null (slice_index_or os k None)

-- the target at i is 0, and each one before it is a handle
pub record FirstWithout (null : ℕ) (os : List (Option ColorAttachment)) (i : ℕ) : Type 0 where
  pub within : i < length os
  pub without : target_of null (slice_index_or os i None) ≡ 0
  pub targets_before : (k : ℕ) → k < i → HasTarget null os k

-- what the index of the first attachment without a target, or none, says of the attachments
abbrev pub WithoutAt : ℕ → List (Option ColorAttachment) → Option ℕ → Type 0
WithoutAt null os None = (k : ℕ) → k < length os → HasTarget null os k
WithoutAt null os (Some i) = FirstWithout null os i

-- ---- the law

abbrev pub RefusalsAreFirst : Type 0
RefusalsAreFirst =
    (null : ℕ) (os : List (Option ColorAttachment)) → WithoutAt null os (no_target 0 null os)
