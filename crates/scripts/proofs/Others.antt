-- A word that is not the one asked for, and lines that are no layouts.
use Rattle.std.proofs.Common.{◌≡◌, ℕ, Bool, true, false, List, Option, Ok, Err, Result, ok_or, refl, [], ◌∷◌, ◌≤◌, ◌-◌, length, get_or, take, drop, codes, arith}
use Rattle.std.proofs.lemmas.Grind.{common_steps}
use Rattle.std.specs.Str.{bytes_eq}
use Rattle.std.proofs.lemmas.Slice.Eq.{bytes_eq-Decides}
use Rattle.scripts.specs.declared.not_done.NotDone.{NotDone}
use Rattle.scripts.specs.declared.not_done.NotDone.TheVariants.{BadLine, Unknown, NotOffered, Refused, Memory}
use Rattle.scripts.specs.declared.line.Line.{Line}
use Rattle.scripts.specs.Words.{Word, is, ReadsAs}
use Rattle.scripts.specs.Lines.{SaidLine, seen_line, other_line, line_said, AreWords, ReadsLine, ReadsText}

pub differs : (text : List ℕ) (word : Word) → (word.now ≡ text → ⊥) → is text word ≡ false
differs text word h = go (bytes_eq word.now text) refl
  where
    go : (b : Bool) → bytes_eq word.now text ≡ b → bytes_eq word.now text ≡ false
    go true e = elim (h ((bytes_eq-Decides word.now text).0 e)) [ ]
    go false e = e

pub reads_line : (o : Option SaidLine) (r : Result Line NotDone) → ReadsAs seen_line o r
    → ReadsLine (ok_or o BadLine) r
reads_line o (Ok l) h = rw h refl
reads_line o (Err BadLine) h = rw h refl
reads_line o (Err (Memory e)) h = tt
reads_line o (Err (Unknown s)) h = elim h [ ]
reads_line o (Err NotOffered) h = elim h [ ]
reads_line o (Err (Refused f)) h = elim h [ ]

-- a line whose verb is another than that of a layout
pub no_layout : (ws : List Word) (d : Word) (r : Result Line NotDone) → 1 ≤ length ws
    → ((get_or ws 0 d).now ≡ codes "layout" → ⊥)
    → ReadsAs seen_line (other_line (get_or ws 0 d) (take (length ws - 1) (drop 1 ws))) r
    → ReadsLine (line_said ws) r
no_layout [] d r h k m = grind arith
no_layout (verb ∷ os) d r h k m =
    let whole : take (length (verb ∷ os) - 1) os ≡ os = grind (arith, common_steps) in
    rw (differs (codes "layout") verb k) (reads_line (other_line verb os) r (rw whole at m))

-- a text that has a byte is read by its words
pub reads_text : (bs : List ℕ) (ws : List Word) (r : Result Line NotDone) → (bs ≡ [] → ⊥)
    → AreWords bs ws → ReadsLine (line_said ws) r → ReadsText bs r
unfolding ReadsText
reads_text [] ws r h a k = elim (h refl) [ ]
reads_text (b ∷ bs) ws (Ok l) h a k = (ws, (a, k))
reads_text (b ∷ bs) ws (Err (Memory e)) h a k = tt
reads_text (b ∷ bs) ws (Err BadLine) h a k = (ws, (a, k))
reads_text (b ∷ bs) ws (Err (Unknown s)) h a k = (ws, (a, k))
reads_text (b ∷ bs) ws (Err NotOffered) h a k = (ws, (a, k))
reads_text (b ∷ bs) ws (Err (Refused f)) h a k = (ws, (a, k))
