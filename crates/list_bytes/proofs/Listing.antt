-- What one record more means.
use Rattle.std.proofs.Common.{◌≡◌, ℕ, zero, suc, ◌-◌, ◌≤◌, true, List, [], ◌∷◌, ◌++◌, length, take, drop, Some, sym, refl, ap, ◌∙◌, arith, append_assoc, length-append, length-drop, take_at, drop_at, drop-drop}
use Rattle.std.proofs.lemmas.List.{length-take-le}
use Rattle.std.proofs.lemmas.Bool.{false≢true, cond-true, and_parts}
use Rattle.command_list.specs.Commands.{Command, record_of, size, framed, code_of, fields}
use Rattle.command_list.specs.Decoding.{front}
use Rattle.command_list.specs.Files.{Verdict, accepted, refused, file, records, has_version, is_accepted}
use Rattle.list_writer.specs.Writing.{Wrote, Began}
use Rattle.list_writer.proofs.Rows.{length_bytes}
use Rattle.list_writer.proofs.Whole.{file_is, some_byte}
use Rattle.device.specs.Devices.{Device, play, step, start}
use Rattle.device.specs.Meaning.{Taken, Anew}
use Rattle.list_bytes.specs.Listed.{is_whole, commands_in, listed, Opened}

pub play_more : (cs : List Command) (c : Command) (d : Device) → play (cs ++ (c ∷ [])) d ≡ step c (play cs d)
play_more [] c d = refl
play_more (b ∷ cs) c d = play_more cs c (step b d)

accepted_is : (v : Verdict) → is_accepted v ≡ true → v ≡ accepted (commands_in v)
accepted_is (accepted cs) e = refl
accepted_is (refused r p) e = absurd (false≢true e)

module _ (c : Command) (xs ys : List ℕ) (n m : ℕ) (w : is_whole xs n ≡ true) (g : Wrote c xs n m ys) where
  before : file (take n xs) ≡ accepted (commands_in (file (take n xs)))
  before = accepted_is (file (take n xs)) w

  after : file (take m ys) ≡ accepted (commands_in (file (take n xs)) ++ (c ∷ []))
  after = g.reads (commands_in (file (take n xs))) before

  same_length : length ys ≡ length xs
  same_length =
      let t : length (take n xs) ≡ n = length-take-le n xs (omega (arith, g.ends, g.within)) in
      let a = length-append (take n xs) (record_of c ++ drop m xs) in
      let b = length-append (record_of c) (drop m xs) in
      let l = length_bytes (framed (code_of c) (fields c)) in
      let d = length-drop m xs in
      ap length g.wrote ∙ omega (arith, g.ends, g.within)

  abbrev longer : List ℕ
  longer = take n xs ++ record_of c

  joined : ys ≡ longer ++ drop m xs
  joined = g.wrote ∙ sym (append_assoc (take n xs) (record_of c) (drop m xs))

  longer_long : length longer ≡ m
  longer_long =
      let t : length (take n xs) ≡ n = length-take-le n xs (omega (arith, g.ends, g.within)) in
      let a = length-append (take n xs) (record_of c) in
      let l = length_bytes (framed (code_of c) (fields c)) in
      omega (arith, g.ends)

  -- the record stands behind the list
  pub in_use_more : take m ys ≡ take n xs ++ record_of c
  in_use_more = ap (take m) joined ∙ take_at longer (drop m xs) m longer_long

  -- what was behind the list's new end stays
  pub unused_more : drop m ys ≡ drop (size c) (drop n xs)
  unused_more =
      ap (drop m) joined ∙ drop_at longer (drop m xs) m longer_long
      ∙ ap (λ k. drop k xs) g.ends ∙ sym (drop-drop (size c) n xs)

  commands : commands_in (file (take m ys)) ≡ commands_in (file (take n xs)) ++ (c ∷ [])
  commands = ap commands_in after

  pub still_whole : is_whole ys m ≡ true
  still_whole = ap is_accepted after

  pub still_within : m ≤ length ys
  still_within = omega (arith, g.within, same_length)

  pub still_small : length xs ≤ 65536 → length ys ≤ 65536
  still_small l = omega (arith, same_length)

  pub listed_more : Taken (listed xs n) c (listed ys m)
  listed_more = record {
    readable = g.taken;
    fits = omega (arith, g.ends, g.within);
    recorded = record {
      device = ap (λ cs. play cs start) commands ∙ play_more (commands_in (file (take n xs))) c start;
      least = omega (arith, g.ends, g.within, same_length);
      most = omega (arith, g.ends, g.within, same_length);
      made = ap (λ l. l - 1) same_length;
      shown = ap Some commands;
      exact = λ bs e. omega (arith, g.ends, g.within, same_length);
    };
  }

-- a list file begins with its version, which alone is an empty list file
version_only : (xs : List ℕ) (n : ℕ) → is_whole xs n ≡ true → file (take 1 xs) ≡ accepted []
unfolding file records front
version_only xs zero e = absurd (false≢true e)
version_only [] (suc n) e = absurd (false≢true e)
version_only (x ∷ xs) (suc n) e =
    let o = file_is (take (suc n) (x ∷ xs)) _ (accepted_is (file (take (suc n) (x ∷ xs))) e) in
    cond-true (has_version (x ∷ [])) _ _ (and_parts _ _ o.version).1

module _ (xs : List ℕ) (n : ℕ) (w : is_whole xs n ≡ true) where
  pub anew_whole : is_whole xs 1 ≡ true
  anew_whole = ap is_accepted (version_only xs n w)

  pub anew_within : n ≤ length xs → 1 ≤ length xs
  anew_within l =
      let z = some_byte (take n xs) (file_is (take n xs) _ (accepted_is _ w)).version in
      let t = length-take-le n xs l in
      omega arith

  pub anew_listed : Anew (listed xs n) (listed xs 1)
  anew_listed =
      let e : commands_in (file (take 1 xs)) ≡ [] = ap commands_in (version_only xs n w) in
      record { device = ap (λ cs. play cs start) e; space = refl; made = refl; shown = ap Some e }

-- a list that was begun
module _ (xs : List ℕ) (n : ℕ) (ys : List ℕ) (g : Began xs n ys) where
  pub began_long : length ys ≡ length xs
  began_long = ap length g.wrote ∙ simp length-drop (omega (arith, g.some))

  pub began_opened : Opened (length xs) (listed ys n)
  began_opened =
      let e : commands_in (file (take n ys)) ≡ [] = ap commands_in g.reads in
      record {
        device = ap (λ cs. play cs start) e;
        space = omega (arith, began_long, g.ends);
        made = ap (λ l. l - 1) began_long;
        shown = ap Some e;
      }
