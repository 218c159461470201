-- Which commands are readable, and what writing one leaves.
use Rattle.std.proofs.Common.{Some, ◌≡◌, ℕ, suc, ◌+◌, ◌-◌, ◌<◌, ◌≤◌, Bool, true, false, ◌&&◌, eqb, ltb, leb, List, [], ◌∷◌, ◌++◌, length, take, drop, set, Ok, Err, Result, subst, sym, refl, ap, ◌∙◌, ⊎_elim, append_assoc, arith, length-append}
use Rattle.std.specs.List.{flat_map, slice_get}
use Rattle.std.specs.Option.{option_eq}
use Rattle.command_list.specs.declared.code.Code.{Code}
use Rattle.std.proofs.lemmas.List.{take_at, length-take-le}
use Rattle.std.proofs.lemmas.Bool.{lt-ltb, le-ltb, le-leb, ltb-true, and_from, and_parts, cases_lt, and_left, lt-leb}
use Rattle.command_list.specs.declared.fault.Fault.{Fault}
use Rattle.command_list.specs.declared.command.Barrier.{Barrier}
use Rattle.command_list.specs.declared.command.Fixed.{Fixed}
use Rattle.command_list.specs.declared.command.Fixed.TheVariants as fixed
use Rattle.command_list.specs.Numbers.{Field, total}
use Rattle.command_list.specs.Commands.{Command, BeginEvent, OMSetRenderTargets, ResourceBarrier, code_of, fields, framed, record_of, unit, handle, entry, entry_width, most_entries, ends_with_zero, in_range, readable}
use Rattle.command_list.specs.Files.{most_bytes, file, records}
use Rattle.command_list.specs.Decoding.{front}
use Rattle.command_list.specs.Seen.{fixed_command}
use Rattle.list_writer.specs.Writing.{Grew, Appended, Wrote, Written, Began}
use Rattle.list_writer.proofs.Rows.{length_bytes, total_entries}
use Rattle.list_writer.proofs.Whole.{file_more}

-- the last of some units
pub last_zero : (us : List ℕ) → option_eq eqb (slice_get us (length us - 1)) (Some 0) ≡ ends_with_zero us
last_zero [] = refl
last_zero (u ∷ []) = refl
last_zero (u ∷ v ∷ us) =
    let e : length (u ∷ v ∷ us) - 1 ≡ suc (length (v ∷ us) - 1) = omega arith in
    ap (λ n. option_eq eqb (slice_get (u ∷ v ∷ us) n) (Some 0)) e ∙ last_zero (v ∷ us)

-- a test of a number of entries is one of the bytes that they take
and_same : (t x y : Bool) → (t ≡ true → x ≡ y) → (t && x) ≡ (t && y)
and_same true x y h = h refl
and_same false x y h = refl

fewer : (w n a b : ℕ) → ((n ≤ a → w < b) × (a < n → b ≤ w)) → leb n a ≡ ltb w b
fewer w n a b h =
    ⊎_elim {A = a < n} {B = n ≤ a} (λ l. lt-leb n a l ∙ sym (le-ltb w b (h.1 l))) (λ l. le-leb n a l ∙ sym (lt-ltb w b (h.0 l))) (cases_lt a n)

pub readable_event : (us : List ℕ) → (ends_with_zero us && leb (length us) 32767) ≡ readable (BeginEvent us)
readable_event us =
    let t = total_entries unit 2 (λ u. refl) us in
    ap (λ x. ends_with_zero us && x) (fewer (total (flat_map unit us)) (length us) 32767 65535 ((λ l. omega arith), (λ l. omega arith)))

pub readable_targets : (hs : List ℕ) → leb (length hs) 8 ≡ readable (OMSetRenderTargets hs)
readable_targets hs =
    let t = total_entries handle 8 (λ h. refl) hs in
    ⊎_elim {A = 8 < length hs} {B = length hs ≤ 8}
    (λ l. let f = lt-leb (length hs) 8 l in f ∙ sym (and_left _ _ f))
    (λ l. let f = le-leb (length hs) 8 l in f ∙ sym (and_from _ _ f (lt-ltb (1 + total (flat_map handle hs)) 65535 (omega arith)))) (cases_lt 8 (length hs))

pub readable_barriers : (es : List Barrier) → (ltb 0 (length es) && leb (length es) most_entries) ≡ readable (ResourceBarrier es)
readable_barriers es =
    let t = total_entries entry entry_width (λ e. refl) es in
    ap (λ x. ltb 0 (length es) && x) (fewer (total (flat_map entry es)) (length es) most_entries 65535 ((λ l. omega arith), (λ l. omega arith)))

pub and_true : (t : Bool) → (t && true) ≡ t
and_true true = refl
and_true false = refl

pub short_fixed : (f : Fixed) → ltb (total (fields (fixed_command f))) 65535 ≡ true
short_fixed fixed.EndEvent = refl
short_fixed (fixed.SetDescriptorHeaps on) = refl
short_fixed (fixed.SetRootSignature h s) = refl
short_fixed (fixed.SetPipelineState p) = refl
short_fixed (fixed.IASetPrimitiveTopology t) = refl
short_fixed (fixed.IASetVertexBuffers i a s t) = refl
short_fixed (fixed.SetRoot32BitConstant h i w v) = refl
short_fixed (fixed.SetRootDescriptorTable h i a) = refl
short_fixed (fixed.SetRootConstantBufferView h i a) = refl
short_fixed (fixed.ClearRenderTargetView t cs) = refl
short_fixed (fixed.RSSetViewports vs) = refl
short_fixed (fixed.RSSetScissorRects l t r b) = refl
short_fixed (fixed.DrawInstanced a b c d) = refl
short_fixed (fixed.Dispatch x y z) = refl
short_fixed (fixed.ExecuteIndirect h s n b o) = refl

pub readable_fixed : (f : Fixed) → in_range (fixed_command f) ≡ readable (fixed_command f)
readable_fixed f = sym (ap (λ x. in_range (fixed_command f) && x) (short_fixed f) ∙ and_true (in_range (fixed_command f)))

-- a readable command's record behind the bytes in use
module _ (c : Command) (xs ys : List ℕ) (n m : ℕ) (r : readable c ≡ true) (g : Grew xs n (code_of c) (fields c) m ys) where
  used : length (take n xs) ≡ n
  used = length-take-le n xs (let e = g.ends in let w = g.within in omega arith)

  front_part : take m ys ≡ take n xs ++ record_of c
  front_part =
      let l : length (take n xs ++ record_of c) ≡ m = length-append (take n xs) (record_of c) ∙ let u = used in let b = length_bytes (framed (code_of c) (fields c)) in let e = g.ends in omega arith in
      ap (take m) (g.wrote ∙ sym (append_assoc (take n xs) (record_of c) (drop m xs))) ∙ take_at (take n xs ++ record_of c) (drop m xs) m l

  pub wrote : Wrote c xs n m ys
  wrote = record {
    taken = r;
    ends = g.ends;
    within = g.within;
    wrote = g.wrote;
    reads = λ cs e. ap file front_part ∙ file_more (take n xs) cs c e (and_parts _ _ r).0 g.fit (let u = used in let d = g.ends in let w = g.within in omega arith);
  }

appended : (c : Command) (xs ys : List ℕ) (n : ℕ) (a : Result ℕ Fault) → readable c ≡ true → Appended xs n (code_of c) (fields c) a ys → Written c xs n a ys
appended c xs ys n (Ok m) r g = wrote c xs ys n m r g
appended c xs ys n (Err f) r g = record { fault = g.fault; why = λ t l. (let h = g.less in omega arith); same = g.same }

-- what was appended, as the record of a command of this code and these operands
pub appended_as : (c : Command) (k : Code) (fs : List Field) (xs ys : List ℕ) (n : ℕ) (a : Result ℕ Fault) → readable c ≡ true → code_of c ≡ k → fields c ≡ fs → Appended xs n k fs a ys → Written c xs n a ys
appended_as c k fs xs ys n a r p q g = appended c xs ys n a r (subst (λ j. Appended xs n j (fields c) a ys) (sym p) (subst (λ gs. Appended xs n k gs a ys) (sym q) g))

pub readable_total : (c : Command) → readable c ≡ true → total (fields c) < 65535
readable_total c r = ltb-true (total (fields c)) 65535 (and_parts _ _ r).1

-- a list that has only its version
pub began : (xs : List ℕ) → 0 < length xs → length xs ≤ most_bytes → Began xs 1 (set xs 0 1)
unfolding file records front
began [] h l = absurd (omega arith)
began (x ∷ xs) h l = record { some = h; short = l; ends = refl; wrote = refl; reads = refl }
