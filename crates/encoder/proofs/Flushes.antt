-- A flush as two walks over a mask.
use Rattle.std.proofs.Common.{◌≡◌, ℕ, ◌+◌, ◌^◌, ◌<◌, ◌≤◌, true, List, ◌++◌, sym, ap, ◌∙◌, subst, ⊎_elim, arith}
use Rattle.std.proofs.lemmas.Bool.{true≢false, cases_lt}
use Rattle.command_list.specs.declared.command.Half.{Half}
use Rattle.command_list.specs.Commands.{Command}
use Rattle.device.specs.Devices.{VertexView}
use Rattle.device.specs.Meaning.{Meaning, Recorded, sizes}
use Rattle.device.proofs.Runs.{sizes_append, recorded_then}
use Rattle.command_list.specs.Bits.{bit}
use Rattle.layouts.proofs.Masks.{bit_high}
use Rattle.passes.specs.Account.{Bound, Views}
use Rattle.device.specs.Writes.{gathered}
use Rattle.passes.specs.Flush.{vertex_commands, root_commands, flushed}
use Rattle.encoder.proofs.Turns.{gathered_fewer}

-- the slots of a mask of w bits are below w
pub mask_below : (w m n : ℕ) → n ≡ m → m < 2 ^ w → (k : ℕ) → bit n k ≡ true → k < w
mask_below w m n q h k e = ⊎_elim (λ l. l) (λ l. absurd (true≢false (sym e ∙ ap (λ x. bit x k) q ∙ bit_high w m k h l))) (cases_lt k w)

-- vertex views whose touched slots are a mask's
abbrev pub masked : (ℕ → VertexView) → ℕ → Views
masked f m = record { views = f; touched = bit m }

module _ (h : Half) (b : Bound) (f : ℕ → VertexView) (m n : ℕ) (same : n ≡ m) (short : m < 2 ^ 16) where
  abbrev pub first_walk : List Command
  first_walk = gathered (bit n) (vertex_commands (masked f m)) 0 64

  abbrev pub second_walk : List Command
  second_walk = gathered b.touched (root_commands h b) 0 64

  pub two_walks : flushed h b (masked f m) ≡ first_walk ++ second_walk
  two_walks =
      let c = vertex_commands (masked f m) in
      let fewer : gathered (bit m) c 0 64 ≡ gathered (bit m) c 0 16 = gathered_fewer (bit m) c 0 16 48 (λ j l. bit_high 16 m j short l) in
      ap (λ x. x ++ second_walk) (sym (ap (λ x. gathered (bit x) c 0 64) same ∙ fewer))

  pub two_sizes : (x y : ℕ) → x ≡ sizes first_walk → y ≡ sizes second_walk → x + y ≡ sizes (flushed h b (masked f m))
  two_sizes x y p q = omega (arith, p, q, ap sizes two_walks, sizes_append first_walk second_walk)

  pub first_fits : (space : ℕ) → sizes (flushed h b (masked f m)) ≤ space → sizes first_walk ≤ space
  first_fits space e = omega (arith, e, ap sizes two_walks, sizes_append first_walk second_walk)

  pub second_fits : (i j : Meaning) → sizes (flushed h b (masked f m)) ≤ i.space → Recorded i first_walk j → sizes second_walk ≤ j.space
  second_fits i j e r = omega (arith, e, ap sizes two_walks, sizes_append first_walk second_walk, r.least)

  pub both_walked : (i j k : Meaning) → Recorded i first_walk j → Recorded j second_walk k → Recorded i (flushed h b (masked f m)) k
  both_walked i j k r s = subst (λ x. Recorded i x k) (sym two_walks) (recorded_then i j k first_walk second_walk r s)
