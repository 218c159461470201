-- The first attachment without a target.
use Rattle.std.proofs.Common.{◌≡◌, ℕ, ◌<◌, true, false, List, Some, None, Option, arith}
use Rattle.std.proofs.lemmas.Bool.{ltb-true, ltb-false}
use Rattle.command_list.specs.Refusals.{FirstOf}
use Rattle.command_list.proofs.Refusing.{first_law}
use Rattle.passes.specs.Calls.{is_handle}
use Rattle.encoder.specs.declared.attachment.ColorAttachment.{ColorAttachment}
use Rattle.encoder.specs.Opening.{target_of, no_target}
use Rattle.encoder.specs.Firsts.{WithoutAt, RefusalsAreFirst}

handle_is : (h : ℕ) → is_handle h ≡ true → 0 < h
handle_is h e = ltb-true 0 h e

no_handle : (h : ℕ) → is_handle h ≡ false → h ≡ 0
no_handle h e = let l = ltb-false 0 h e in omega (arith, l)

says : (null : ℕ) (os : List (Option ColorAttachment)) (o : Option ℕ) → FirstOf (λ a. is_handle (target_of null a)) os o → WithoutAt null os o
says null os None f = λ k h. handle_is _ (f k None h)
says null os (Some i) f = record {
  within = f.within;
  without = no_handle _ (f.fails None);
  targets_before = λ k h. handle_is _ (f.earlier k None h);
}

pub refusals_are_first : RefusalsAreFirst
refusals_are_first null os = says null os (no_target 0 null os) (first_law (λ o. is_handle (target_of null o)) os)
