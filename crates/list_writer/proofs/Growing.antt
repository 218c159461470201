-- A record behind the bytes in use.
use Rattle.std.proofs.Common.{◌≡◌, ℕ, ◌+◌, ◌-◌, ◌≤◌, List, ◌∷◌, ◌++◌, length, take, drop, ap, ◌∙◌, subst, arith}
use borrow.Rule.Slice.PartMut.{put_mid}
use Rattle.std.proofs.lemmas.List.{take_rest, drop-drop}
use Rattle.command_list.specs.declared.code.Code.{Code}
use Rattle.command_list.specs.Numbers.{Field, field, bytes, total}
use Rattle.command_list.specs.Commands.{framed, byte_of}
use Rattle.list_writer.specs.Writing.{Laid, Grew, room}
use Rattle.list_writer.proofs.Rows.{put_end}

pub grew : (xs zs : List ℕ) (n s j b : ℕ) (k : Code) (fs : List Field) → b ≡ byte_of k → s ≡ 3 + total fs → n + s ≤ room (length xs)
    → Laid (field 2 (s - 2) ∷ field 1 b ∷ fs) (take (length xs - n) (drop n xs)) zs j → Grew xs n k fs (n + s) (put_mid n (length xs - n) xs zs)
grew xs zs n s j b k fs q e h a =
    let two : s - 2 ≡ 1 + total fs = omega arith in
    let d = subst (λ t. Laid (field 2 t ∷ field 1 b ∷ fs) (take (length xs - n) (drop n xs)) zs j) two a in
    let l = subst (λ t. Laid (field 2 (1 + total fs) ∷ field 1 t ∷ fs) (take (length xs - n) (drop n xs)) zs j) q d in
    let far : n + j ≡ n + s = omega (arith, l.long) in
    let rest : drop j (take (length xs - n) (drop n xs)) ≡ drop (n + s) xs = ap (drop j) (take_rest xs n) ∙ drop-drop j n xs ∙ ap (λ t. drop t xs) far in
    record {
      ends = ap (λ t. n + t) e;
      within = h;
      wrote = put_end n xs zs ∙ ap (λ z. take n xs ++ z) (l.wrote ∙ ap (λ z. bytes (framed k fs) ++ z) rest);
      fit = l.fit;
    }
