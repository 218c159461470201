-- A command's record reads back as the command, and a record that is read is its command's own.
use Rattle.std.proofs.Common.{◌≡◌, ℕ, ◌+◌, ◌*◌, ◌/◌, ◌%◌, ◌<◌, ◌≤◌, Bool, true, false, ◌&&◌, eqb, ltb, List, [], ◌∷◌, length, get_or, Some, None, Option, sym, refl, ap, ◌∙◌, subst, ap₂, ⊎_elim, mul-pos, div-add-mod', arith}
use native.Mathlib.Nat.{mul-mod_right, mul-div_right}
use Rattle.std.specs.List.{flat_map}
use Rattle.std.proofs.lemmas.Nat.{div-mul-add}
use Rattle.std.proofs.lemmas.List.{take_all}
use Rattle.std.proofs.lemmas.Bool.{cond-true, cond-false, eq-eqb, ne_eqb, eqb-true, lt-ltb, ltb-true, leb-true, and_from, and_parts, cases_Bool, false≢true}
use Rattle.std.proofs.lemmas.Option.{same_Some}
use Rattle.command_list.specs.declared.command.Half.{Half}
use Rattle.command_list.specs.declared.command.Half.TheVariants.{Graphics, Compute}
use Rattle.command_list.specs.declared.command.BarrierType.{BarrierType}
use Rattle.command_list.specs.declared.command.BarrierType.TheVariants.{Transition, Uav}
use Rattle.command_list.specs.declared.command.Barrier.{Barrier}
use Rattle.command_list.specs.declared.code.Code.{Code}
use Rattle.command_list.specs.declared.code.Code.TheVariants as code
use Rattle.command_list.specs.Numbers.{Field, bytes, total, Fit, widths, values, number_at, numbers}
use Rattle.command_list.specs.Commands.{Command, code_of, fields, unit, handle, entry, entry_widths, entry_width, sum, in_range, ends_with_zero, type_byte, flag_byte, kind_byte, special_byte, BeginEvent, EndEvent, SetDescriptorHeaps, SetRootSignature, SetPipelineState, IASetPrimitiveTopology, IASetVertexBuffers, SetRoot32BitConstant, SetRootDescriptorTable, SetRootConstantBufferView, OMSetRenderTargets, ClearRenderTargetView, RSSetViewports, RSSetScissorRects, ResourceBarrier, DrawInstanced, Dispatch, ExecuteIndirect}
use Rattle.command_list.specs.Decoding.{shape, length_right, repeated, widths_of, flag_of, kind_of, special_of, type_of, then, barriers, named, takes, wrong, checked, decode}
use Rattle.command_list.proofs.Places.{number_1}
use Rattle.list_writer.specs.EntryLaws.{widths_joined, values_units, values_handles, two_ways, entries_back}
use Rattle.list_writer.proofs.Rows.{length_bytes, total_entries}
use Rattle.command_list.specs.RowLaws.{then_is, length_numbers, length_repeated, count_barriers}
use Rattle.command_list.proofs.Runs.{sum_repeated}
use Rattle.list_writer.proofs.Bytewise.{numbers_bytes, bytes_numbers, Bytes}

-- one law for every code: operands of the right length and widths, which name a command in range, are read as it
decode_by : (k : Code) (fs : List Field) (c : Command) → length_right (shape k) (total fs) (get_or (bytes fs) 0 0) ≡ true → widths_of (shape k) (total fs) ≡ widths fs
    → named k (values fs) ≡ Some c → in_range c ≡ true → Fit fs → decode k (bytes fs) ≡ takes c
decode_by k fs c l w n r f =
    let long = length_bytes fs in
    cond-true _ _ _ (ap (λ t. length_right (shape k) t (get_or (bytes fs) 0 0)) long ∙ l)
    ∙ ap (λ t. checked (named k (numbers (widths_of (shape k) t) 0 (bytes fs)))) long
    ∙ ap (λ ws. checked (named k (numbers ws 0 (bytes fs)))) w
    ∙ ap (λ vs. checked (named k vs)) (numbers_bytes fs f)
    ∙ ap checked n
    ∙ cond-true _ _ _ r

type_byte_lem : (t : BarrierType) → type_of (type_byte t) ≡ Some t
type_byte_lem Transition = refl
type_byte_lem Uav = refl

barriers_entries : (es : List Barrier) → barriers (values (flat_map entry es)) ≡ Some es
barriers_entries [] = refl
barriers_entries (e ∷ es) =
    ap (λ o. then o (λ k. then (barriers (values (flat_map entry es))) (λ ds. Some (record { kind = k; resource = e.resource; subresource = e.subresource; before = e.before; after = e.after } ∷ ds)))) (type_byte_lem e.kind)
    ∙ ap (λ o. then o (λ ds. Some (e ∷ ds))) (barriers_entries es)

-- one or more entries of one width
several_right : (w n : ℕ) → 0 < w → 0 < n → (ltb 0 (w * n) && eqb (w * n % w) 0) ≡ true
several_right w n h k = and_from _ _ (lt-ltb 0 (w * n) (mul-pos h k)) (eq-eqb (w * n % w) 0 (mul-mod_right w n))

units_some : (us : List ℕ) → ends_with_zero us ≡ true → 0 < length us
units_some [] e = absurd (false≢true e)
units_some (u ∷ us) e = omega arith

special_byte_lem : (s : Option ℕ) → in_range (ExecuteIndirect Graphics s 0 0 0) ≡ true → special_of (special_byte s) ≡ s
special_byte_lem None e = refl
special_byte_lem (Some i) e = let h = ltb-true i 64 e in cond-false _ _ _ (ne_eqb i 255 (λ z. omega arith))

pub decoded : (c : Command) → in_range c ≡ true → Fit (fields c) → decode (code_of c) (bytes (fields c)) ≡ takes c
decoded (BeginEvent us) r f =
    let t : total (flat_map unit us) ≡ 2 * length us = total_entries unit 2 (λ u. refl) us in
    decode_by code.BeginEvent (flat_map unit us) _
    (ap (λ n. ltb 0 n && eqb (n % 2) 0) t ∙ several_right 2 (length us) (omega arith) (units_some us r))
    (ap (λ n. repeated n (2 ∷ [])) (ap (λ n. n / 2) t ∙ mul-div_right (length us) {m = 2} (omega arith)) ∙ sym (widths_joined unit (2 ∷ []) (λ u. refl) us))
    (ap (λ l. Some (BeginEvent l)) (values_units us)) r f
decoded EndEvent r f = decode_by code.EndEvent [] _ refl refl refl r f
decoded (SetDescriptorHeaps true) r f = decode_by code.SetDescriptorHeaps (fields (SetDescriptorHeaps true)) _ refl refl refl r f
decoded (SetDescriptorHeaps false) r f = decode_by code.SetDescriptorHeaps (fields (SetDescriptorHeaps false)) _ refl refl refl r f
decoded (SetRootSignature Graphics s) r f = decode_by code.SetGraphicsRootSignature (fields (SetRootSignature Graphics s)) _ refl refl refl r f
decoded (SetRootSignature Compute s) r f = decode_by code.SetComputeRootSignature (fields (SetRootSignature Compute s)) _ refl refl refl r f
decoded (SetPipelineState p) r f = decode_by code.SetPipelineState (fields (SetPipelineState p)) _ refl refl refl r f
decoded (IASetPrimitiveTopology t) r f = decode_by code.IASetPrimitiveTopology (fields (IASetPrimitiveTopology t)) _ refl refl refl r f
decoded (IASetVertexBuffers i a s t) r f = decode_by code.IASetVertexBuffers (fields (IASetVertexBuffers i a s t)) _ refl refl refl r f
decoded (SetRoot32BitConstant Graphics i w v) r f = decode_by code.SetGraphicsRoot32BitConstant (fields (SetRoot32BitConstant Graphics i w v)) _ refl refl refl r f
decoded (SetRoot32BitConstant Compute i w v) r f = decode_by code.SetComputeRoot32BitConstant (fields (SetRoot32BitConstant Compute i w v)) _ refl refl refl r f
decoded (SetRootDescriptorTable Graphics i a) r f = decode_by code.SetGraphicsRootDescriptorTable (fields (SetRootDescriptorTable Graphics i a)) _ refl refl refl r f
decoded (SetRootDescriptorTable Compute i a) r f = decode_by code.SetComputeRootDescriptorTable (fields (SetRootDescriptorTable Compute i a)) _ refl refl refl r f
decoded (SetRootConstantBufferView Graphics i a) r f = decode_by code.SetGraphicsRootConstantBufferView (fields (SetRootConstantBufferView Graphics i a)) _ refl refl refl r f
decoded (SetRootConstantBufferView Compute i a) r f = decode_by code.SetComputeRootConstantBufferView (fields (SetRootConstantBufferView Compute i a)) _ refl refl refl r f
decoded (OMSetRenderTargets hs) r f =
    let n = length hs in
    let few : n ≤ 8 = leb-true n 8 r in
    let t : total (flat_map handle hs) ≡ 8 * n = total_entries handle 8 (λ h. refl) hs in
    let b : n / 1 % 256 ≡ n = omega arith in
    let d : (1 + total (flat_map handle hs)) / 8 ≡ n = ap (λ k. k / 8) (omega arith) ∙ div-mul-add n 8 1 (omega arith) in
    decode_by code.OMSetRenderTargets (fields (OMSetRenderTargets hs)) _
    (eq-eqb (1 + total (flat_map handle hs)) (1 + 8 * (n / 1 % 256)) (omega arith))
    (ap (λ k. 1 ∷ repeated k (8 ∷ [])) d ∙ ap (λ l. 1 ∷ l) (sym (widths_joined handle (8 ∷ []) (λ h. refl) hs)))
    (ap (λ l. Some (OMSetRenderTargets l)) (values_handles hs)) r f
decoded (ClearRenderTargetView t a b c d) r f = decode_by code.ClearRenderTargetView (fields (ClearRenderTargetView t a b c d)) _ refl refl refl r f
decoded (RSSetViewports x y w h m n) r f = decode_by code.RSSetViewports (fields (RSSetViewports x y w h m n)) _ refl refl refl r f
decoded (RSSetScissorRects l t rt b) r f = decode_by code.RSSetScissorRects (fields (RSSetScissorRects l t rt b)) _ refl refl refl r f
decoded (ResourceBarrier es) r f =
    let t : total (flat_map entry es) ≡ entry_width * length es = total_entries entry entry_width (λ e. refl) es in
    decode_by code.ResourceBarrier (flat_map entry es) _
    (ap (λ n. ltb 0 n && eqb (n % entry_width) 0) t ∙ several_right entry_width (length es) (omega arith) (ltb-true 0 (length es) r))
    (ap (λ n. repeated n entry_widths) (ap (λ n. n / entry_width) t ∙ mul-div_right (length es) {m = entry_width} (omega arith)) ∙ sym (widths_joined entry entry_widths (λ e. refl) es))
    (ap (λ o. then o (λ ds. Some (ResourceBarrier ds))) (barriers_entries es)) r f
decoded (DrawInstanced a b c d) r f = decode_by code.DrawInstanced (fields (DrawInstanced a b c d)) _ refl refl refl r f
decoded (Dispatch x y z) r f = decode_by code.Dispatch (fields (Dispatch x y z)) _ refl refl refl r f
decoded (ExecuteIndirect Graphics s n b o) r f = decode_by code.ExecuteIndirect (fields (ExecuteIndirect Graphics s n b o)) _ refl refl (ap (λ i. Some (ExecuteIndirect Graphics i n b o)) (special_byte_lem s r)) r f
decoded (ExecuteIndirect Compute s n b o) r f = decode_by code.ExecuteIndirect (fields (ExecuteIndirect Compute s n b o)) _ refl refl (ap (λ i. Some (ExecuteIndirect Compute i n b o)) (special_byte_lem s r)) r f

-- the other way: what is read has the operands of its command
pub record Backs (k : Code) (ops : List ℕ) (c : Command) : Type 0 where
  pub same : code_of c ≡ k
  pub wrote : bytes (fields c) ≡ ops

sum_widths : (fs : List Field) → sum (widths fs) ≡ total fs
sum_widths [] = refl
sum_widths (f ∷ fs) = ap (λ n. f.width + n) (sum_widths fs)

-- one law for every code
back_by : (k : Code) (ws : List ℕ) (d c : Command) (ops : List ℕ) → code_of d ≡ k → widths (fields d) ≡ ws → values (fields d) ≡ numbers ws 0 ops → sum ws ≡ length ops → Bytes ops → Some d ≡ Some c → Backs k ops c
back_by k ws d c ops q w v l b e =
    let long : total (fields d) ≡ length ops = sym (sum_widths (fields d)) ∙ ap sum w ∙ l in
    subst (λ x. Backs k ops x) (same_Some _ _ e)
    (record {
      same = q;
      wrote = bytes_numbers (fields d) 0 ops b (omega arith) (v ∙ ap (λ us. numbers us 0 ops) (sym w)) ∙ take_all (total (fields d)) ops (omega arith);
    })

flag_back : (n : ℕ) (on : Bool) → flag_of n ≡ Some on → flag_byte on ≡ n
flag_back n on e = ⊎_elim (λ p. ap flag_byte p.0 ∙ sym p.1) (λ p. ap flag_byte p.0 ∙ sym p.1) (two_ways n 0 1 false true on e)

kind_back : (n : ℕ) (h : Half) → kind_of n ≡ Some h → kind_byte h ≡ n
kind_back n h e = ⊎_elim (λ p. ap kind_byte p.0 ∙ sym p.1) (λ p. ap kind_byte p.0 ∙ sym p.1) (two_ways n 0 2 Graphics Compute h e)

special_back : (n : ℕ) → special_byte (special_of n) ≡ n
special_back n =
    ⊎_elim {A = eqb n 255 ≡ true} {B = eqb n 255 ≡ false}
    (λ t. ap special_byte (cond-true _ _ _ t) ∙ sym (eqb-true n 255 t)) (λ f. ap special_byte (cond-false _ _ _ f)) (cases_Bool (eqb n 255))

-- what a code and its operands have to be where they are read as a command
takes_same : {c d : Command} → takes c ≡ takes d → c ≡ d
takes_same e = cc

wrong_takes : {n : ℕ} {c : Command} → wrong n ≡ takes c → ⊥
wrong_takes e = let z : ◌≡◌ {A = ℕ} 0 1 = cc in omega arith

checked_is : (o : Option Command) (c : Command) → checked o ≡ takes c → (o ≡ Some c) × (in_range c ≡ true)
checked_is None c e = absurd (wrong_takes e)
checked_is (Some d) c e =
    ⊎_elim {A = in_range d ≡ true} {B = in_range d ≡ false}
    (λ t. let same : d ≡ c = takes_same (sym (cond-true _ _ _ t) ∙ e) in (ap Some same, subst (λ x. in_range x ≡ true) same t))
    (λ f. absurd (wrong_takes (sym (cond-false _ _ _ f) ∙ e)))
    (cases_Bool (in_range d))

pub record Said (k : Code) (ops : List ℕ) (c : Command) : Type 0 where
  pub long : length_right (shape k) (length ops) (get_or ops 0 0) ≡ true
  pub names : named k (numbers (widths_of (shape k) (length ops)) 0 ops) ≡ Some c
  pub ranged : in_range c ≡ true

pub decode_is : (k : Code) (ops : List ℕ) (c : Command) → decode k ops ≡ takes c → Said k ops c
decode_is k ops c e =
    ⊎_elim {A = length_right (shape k) (length ops) (get_or ops 0 0) ≡ true} {B = length_right (shape k) (length ops) (get_or ops 0 0) ≡ false}
    (λ t. let o = checked_is _ c (sym (cond-true _ _ _ t) ∙ e) in record { long = t; names = o.0; ranged = o.1 })
    (λ f. absurd (wrong_takes (sym (cond-false _ _ _ f) ∙ e)))
    (cases_Bool (length_right (shape k) (length ops) (get_or ops 0 0)))

-- a row of a fixed width
fixed_back : (k : Code) (ws : List ℕ) (d c : Command) (ops : List ℕ) → code_of d ≡ k → widths (fields d) ≡ ws → values (fields d) ≡ numbers ws 0 ops → eqb (length ops) (sum ws) ≡ true → Bytes ops → Some d ≡ Some c → Backs k ops c
fixed_back k ws d c ops q w v l b e = back_by k ws d c ops q w v (sym (eqb-true (length ops) (sum ws) l)) b e

-- as many whole entries as there is room for
several_length : (w n : ℕ) (ws : List ℕ) → sum ws ≡ w → (ltb 0 n && eqb (n % w) 0) ≡ true → sum (repeated (n / w) ws) ≡ n
several_length w n ws s t =
    let z : n % w ≡ 0 = eqb-true (n % w) 0 (and_parts _ _ t).1 in
    let d = div-add-mod' n w in
    sum_repeated (n / w) ws ∙ ap (λ k. n / w * k) s ∙ omega arith

backs : (k : Code) (ops : List ℕ) (c : Command) → Bytes ops → length_right (shape k) (length ops) (get_or ops 0 0) ≡ true → named k (numbers (widths_of (shape k) (length ops)) 0 ops) ≡ Some c → Backs k ops c
backs code.BeginEvent ops c b l e =
    let n = length ops / 2 in
    let vs = numbers (repeated n (2 ∷ [])) 0 ops in
    let many : length vs ≡ n = length_numbers (repeated n (2 ∷ [])) 0 ops ∙ length_repeated n 2 in
    back_by code.BeginEvent (repeated n (2 ∷ [])) (BeginEvent vs) c ops refl (widths_joined unit (2 ∷ []) (λ u. refl) vs ∙ ap (λ k. repeated k (2 ∷ [])) many) (values_units vs) (several_length 2 (length ops) (2 ∷ []) refl l) b e
backs code.EndEvent ops c b l e = fixed_back code.EndEvent [] EndEvent c ops refl refl refl l b e
backs code.SetDescriptorHeaps ops c b l e =
    let a = then_is (flag_of (number_at 1 0 ops)) _ c e in
    fixed_back code.SetDescriptorHeaps (1 ∷ []) (SetDescriptorHeaps a.0) c ops refl refl (ap (λ x. x ∷ []) (flag_back _ a.0 a.1)) l b a.2
backs code.SetGraphicsRootSignature ops c b l e = fixed_back code.SetGraphicsRootSignature (4 ∷ []) (SetRootSignature Graphics (number_at 4 0 ops)) c ops refl refl refl l b e
backs code.SetComputeRootSignature ops c b l e = fixed_back code.SetComputeRootSignature (4 ∷ []) (SetRootSignature Compute (number_at 4 0 ops)) c ops refl refl refl l b e
backs code.SetPipelineState ops c b l e = fixed_back code.SetPipelineState (4 ∷ []) (SetPipelineState (number_at 4 0 ops)) c ops refl refl refl l b e
backs code.IASetPrimitiveTopology ops c b l e = fixed_back code.IASetPrimitiveTopology (4 ∷ []) (IASetPrimitiveTopology (number_at 4 0 ops)) c ops refl refl refl l b e
backs code.IASetVertexBuffers ops c b l e = fixed_back code.IASetVertexBuffers (1 ∷ 8 ∷ 4 ∷ 4 ∷ []) (IASetVertexBuffers _ _ _ _) c ops refl refl refl l b e
backs code.SetGraphicsRoot32BitConstant ops c b l e = fixed_back code.SetGraphicsRoot32BitConstant (1 ∷ 1 ∷ 4 ∷ []) (SetRoot32BitConstant Graphics _ _ _) c ops refl refl refl l b e
backs code.SetComputeRoot32BitConstant ops c b l e = fixed_back code.SetComputeRoot32BitConstant (1 ∷ 1 ∷ 4 ∷ []) (SetRoot32BitConstant Compute _ _ _) c ops refl refl refl l b e
backs code.SetGraphicsRootDescriptorTable ops c b l e = fixed_back code.SetGraphicsRootDescriptorTable (1 ∷ 8 ∷ []) (SetRootDescriptorTable Graphics _ _) c ops refl refl refl l b e
backs code.SetComputeRootDescriptorTable ops c b l e = fixed_back code.SetComputeRootDescriptorTable (1 ∷ 8 ∷ []) (SetRootDescriptorTable Compute _ _) c ops refl refl refl l b e
backs code.SetGraphicsRootConstantBufferView ops c b l e = fixed_back code.SetGraphicsRootConstantBufferView (1 ∷ 8 ∷ []) (SetRootConstantBufferView Graphics _ _) c ops refl refl refl l b e
backs code.SetComputeRootConstantBufferView ops c b l e = fixed_back code.SetComputeRootConstantBufferView (1 ∷ 8 ∷ []) (SetRootConstantBufferView Compute _ _) c ops refl refl refl l b e
backs code.OMSetRenderTargets ops c b l e =
    let n = length ops / 8 in
    let hs = numbers (repeated n (8 ∷ [])) 1 ops in
    let many : length hs ≡ n = length_numbers (repeated n (8 ∷ [])) 1 ops ∙ length_repeated n 8 in
    let long : length ops ≡ 1 + 8 * get_or ops 0 0 = eqb-true (length ops) (1 + 8 * get_or ops 0 0) l in
    let count : length hs ≡ number_at 1 0 ops = many ∙ omega arith ∙ sym (number_1 0 ops (omega arith)) in
    back_by code.OMSetRenderTargets (1 ∷ repeated n (8 ∷ [])) (OMSetRenderTargets hs) c ops refl
    (ap (λ ws. 1 ∷ ws) (widths_joined handle (8 ∷ []) (λ h. refl) hs ∙ ap (λ k. repeated k (8 ∷ [])) many))
    (ap₂ (λ x xs. x ∷ xs) count (values_handles hs))
    (ap (λ k. 1 + k) (sum_repeated n (8 ∷ [])) ∙ omega arith) b e
backs code.ClearRenderTargetView ops c b l e = fixed_back code.ClearRenderTargetView (8 ∷ 4 ∷ 4 ∷ 4 ∷ 4 ∷ []) (ClearRenderTargetView _ _ _ _ _) c ops refl refl refl l b e
backs code.RSSetViewports ops c b l e = fixed_back code.RSSetViewports (4 ∷ 4 ∷ 4 ∷ 4 ∷ 4 ∷ 4 ∷ []) (RSSetViewports _ _ _ _ _ _) c ops refl refl refl l b e
backs code.RSSetScissorRects ops c b l e = fixed_back code.RSSetScissorRects (4 ∷ 4 ∷ 4 ∷ 4 ∷ []) (RSSetScissorRects _ _ _ _) c ops refl refl refl l b e
backs code.ResourceBarrier ops c b l e =
    let n = length ops / entry_width in
    let a = then_is (barriers (numbers (repeated n entry_widths) 0 ops)) _ c e in
    back_by code.ResourceBarrier (repeated n entry_widths) (ResourceBarrier a.0) c ops refl
    (widths_joined entry entry_widths (λ x. refl) a.0 ∙ ap (λ k. repeated k entry_widths) (count_barriers n 0 ops a.0 a.1))
    (entries_back n 0 ops a.0 a.1) (several_length entry_width (length ops) entry_widths refl l) b a.2
backs code.DrawInstanced ops c b l e = fixed_back code.DrawInstanced (4 ∷ 4 ∷ 4 ∷ 4 ∷ []) (DrawInstanced _ _ _ _) c ops refl refl refl l b e
backs code.Dispatch ops c b l e = fixed_back code.Dispatch (4 ∷ 4 ∷ 4 ∷ []) (Dispatch _ _ _) c ops refl refl refl l b e
backs code.ExecuteIndirect ops c b l e =
    let a = then_is (kind_of (number_at 1 0 ops)) _ c e in
    fixed_back code.ExecuteIndirect (1 ∷ 1 ∷ 4 ∷ 4 ∷ 8 ∷ []) (ExecuteIndirect a.0 _ _ _ _) c ops refl refl
    (ap₂ (λ x y. x ∷ y ∷ number_at 4 2 ops ∷ number_at 4 6 ops ∷ number_at 8 10 ops ∷ []) (kind_back _ a.0 a.1) (special_back (number_at 1 1 ops))) l b a.2

pub decode_back : (k : Code) (ops : List ℕ) (c : Command) → Bytes ops → decode k ops ≡ takes c → Backs k ops c
decode_back k ops c b e = let s = decode_is k ops c e in backs k ops c b s.long s.names
