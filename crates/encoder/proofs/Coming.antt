-- How far the recording of some commands has come.
use Rattle.std.proofs.Common.{◌≡◌, ℕ, ◌+◌, ◌*◌, ◌<◌, ◌≤◌, length, drop, get_or, Ok, Err, Result, List, [], ◌∷◌, ◌++◌, sym, refl, ap, ◌∙◌, subst, append_assoc, arith}
use Rattle.std.proofs.lemmas.List.{append-nil, drop_more}
use Rattle.command_list.specs.declared.command.Half.{Half}
use Rattle.command_list.specs.declared.fault.Fault.{Fault}
use Rattle.command_list.specs.Commands.{Command, SetRoot32BitConstant}
use Rattle.device.specs.Meaning.{Meaning, Recorded, sizes}
use Rattle.device.specs.Writes.{word_commands}
use Rattle.encoder.specs.Putting.{Put}
use Rattle.device.proofs.Runs.{sizes_append, recorded_none, recorded_then}

-- of all these commands some are recorded, and the rest is to come
pub record Coming (all : List Command) (m : Meaning) (rest : List Command) (n : Meaning) : Type 0 where
  pub done : List Command
  pub split : all ≡ done ++ rest
  pub recorded : Recorded m done n

pub coming_start : (all : List Command) (m : Meaning) → Coming all m all m
coming_start all m = record { done = []; split = refl; recorded = recorded_none m }

module _ (all : List Command) (m : Meaning) (rest cs later : List Command) (n : Meaning) (is : rest ≡ cs ++ later) (c : Coming all m rest n) where
  pub coming_next : (k : Meaning) → Recorded n cs k → Coming all m later k
  coming_next k r = record {
    done = c.done ++ cs;
    split = c.split ∙ ap (λ x. c.done ++ x) is ∙ sym (append_assoc c.done cs later);
    recorded = recorded_then m n k c.done cs c.recorded r;
  }

  -- where all fit, the next fit
  pub coming_fits : sizes all ≤ m.space → sizes cs ≤ n.space
  coming_fits h = omega (arith, h, ap sizes c.split, sizes_append c.done rest, ap sizes is, sizes_append cs later, c.recorded.least)

pub coming_end : (all : List Command) (m : Meaning) (rest : List Command) (n : Meaning) → rest ≡ [] → Coming all m rest n → Recorded m all n
coming_end all m rest n e c = subst (λ cs. Recorded m cs n) (sym (c.split ∙ ap (λ x. c.done ++ x) e ∙ append-nil c.done)) c.recorded

-- what was put was recorded
pub put_recorded : (m : Meaning) (cs : List Command) (r : Result Unit Fault) (n : Meaning) → Put m cs r n → Recorded m cs n
put_recorded m cs (Ok u) n p = p
put_recorded m cs (Err f) n p = absurd p

-- what was put last ends what was recorded before
pub put_after : (m n k : Meaning) (cs ds : List Command) (r : Result Unit Fault) → (Recorded n cs k → Recorded m ds k) → Put n cs r k → Put m ds r k
put_after m n k cs ds (Ok u) f p = f p
put_after m n k cs ds (Err e) f p = absurd p

-- words of a slot, one after the other
module _ (h : Half) (k w : ℕ) (xs : List ℕ) (short : w < length xs) where
  pub word_next : word_commands h k w (drop w xs) ≡ (SetRoot32BitConstant h k w (get_or xs w 0) ∷ []) ++ word_commands h k (w + 1) (drop (w + 1) xs)
  word_next = ap (word_commands h k w) (drop_more xs w 0 short)

pub words_size : (h : Half) (k w : ℕ) (xs : List ℕ) → sizes (word_commands h k w xs) ≡ 9 * length xs
words_size h k w [] = omega arith
words_size h k w (x ∷ xs) = let s = words_size h k (w + 1) xs in omega arith
