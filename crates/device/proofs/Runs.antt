-- Runs of commands, one behind the other.
use Rattle.std.proofs.Common.{◌≡◌, ℕ, ◌+◌, ◌≤◌, List, [], ◌∷◌, ◌++◌, Some, None, Option, sym, refl, ap, ◌∙◌, append_assoc, append-nil, arith}
use Rattle.command_list.specs.Commands.{Command, code_of, byte_of}
use Rattle.device.specs.Devices.{Device, step, play}
use Rattle.device.specs.Meaning.{Meaning, sizes, shown_more, Recorded}
use Rattle.device.proofs.Steps.{step_counts}
use Rattle.device.proofs.Updates.{more_least}

pub play_append : (bs cs : List Command) (d : Device) → play (bs ++ cs) d ≡ play cs (play bs d)
play_append [] cs d = refl
play_append (b ∷ bs) cs d = play_append bs cs (step b d)

-- no command lowers a count
pub counts_rise : (cs : List Command) (d : Device) (k : ℕ) → d.counts k ≤ (play cs d).counts k
counts_rise [] d k = omega arith
counts_rise (c ∷ cs) d k = omega (arith, counts_rise cs (step c d) k, ap (λ f. f k) (step_counts c d), more_least d.counts (byte_of (code_of c)) k)

pub sizes_append : (bs cs : List Command) → sizes (bs ++ cs) ≡ sizes bs + sizes cs
sizes_append [] cs = omega arith
sizes_append (b ∷ bs) cs = let s = sizes_append bs cs in omega arith

pub shown_append : (bs cs : List Command) (o : Option (List Command)) → shown_more (bs ++ cs) o ≡ shown_more cs (shown_more bs o)
shown_append bs cs None = refl
shown_append bs cs (Some xs) = ap Some (sym (append_assoc xs bs cs))

shown_none : (o : Option (List Command)) → o ≡ shown_more [] o
shown_none None = refl
shown_none (Some xs) = ap Some (sym (append-nil xs))

-- nothing was recorded
pub recorded_none : (m : Meaning) → Recorded m [] m
recorded_none m = record { device = refl; least = omega arith; most = omega arith; made = refl; shown = shown_none m.shown; exact = λ bs e. omega arith }

-- some commands, then others
pub recorded_then : (m n k : Meaning) (bs cs : List Command) → Recorded m bs n → Recorded n cs k → Recorded m (bs ++ cs) k
recorded_then m n k bs cs a b = record {
  device = b.device ∙ ap (play cs) a.device ∙ sym (play_append bs cs m.device);
  least = omega (arith, a.least, b.least, sizes_append bs cs);
  most = omega (arith, a.most, b.most);
  made = b.made ∙ a.made;
  shown = b.shown ∙ ap (shown_more cs) a.shown ∙ sym (shown_append bs cs m.shown);
  exact = λ xs e. omega (arith, a.exact xs e, b.exact (xs ++ bs) (a.shown ∙ ap (shown_more bs) e), sizes_append bs cs);
}
