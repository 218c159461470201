-- What a recorder shows, and what is left of an allowance for it.
use Rattle.std.proofs.Common.{◌≡◌, ℕ, ◌+◌, ◌-◌, ◌≤◌, List, [], ◌∷◌, ◌++◌, Some, None, Option, sym, refl, ap, ◌∙◌, arith}
use Rattle.std.proofs.lemmas.Option.{none-some}
use Rattle.command_list.specs.Commands.{Command, size}
use Rattle.device.specs.Meaning.{Meaning, sizes, shown_more, Recorded}
use Rattle.device.proofs.Runs.{sizes_append}

-- what is shown behind some commands tells what was shown before them
shown_before : (bs cs : List Command) (o p : Option (List Command)) → p ≡ shown_more bs o → p ≡ Some cs → (xs : List Command) × (o ≡ Some xs) × (cs ≡ xs ++ bs)
shown_before bs cs None p e h = absurd (none-some cs (sym e ∙ h))
shown_before bs cs (Some xs) p e h = (xs, refl, cc)

-- commands shown and what is left of the allowance stay the allowance
pub still_spent : (m n : Meaning) (c : Command) (rest most k : ℕ) → ((cs : List Command) → m.shown ≡ Some cs → rest + sizes cs ≡ most)
    → Recorded m (c ∷ []) n → k ≡ size c → k ≤ rest → (cs : List Command) → n.shown ≡ Some cs → rest - k + sizes cs ≡ most
still_spent m n c rest most k s r e l cs h =
    let b = shown_before (c ∷ []) cs m.shown n.shown r.shown h in
    omega (arith, s b.0 b.1, sizes_append b.0 (c ∷ []), ap sizes b.2, e, l)
