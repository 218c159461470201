-- Whole files: one record more reads back, and a file that is read is its commands' own.
use Rattle.std.proofs.Common.{◌≡◌, ℕ, zero, suc, ◌+◌, ◌-◌, ◌*◌, ◌/◌, ◌%◌, ◌<◌, ◌≤◌, Bool, true, false, ◌||◌, eqb, ltb, List, [], ◌∷◌, ◌++◌, length, get_or, take, drop, Some, None, Option, sym, refl, ap, ◌∙◌, ap₂, ⊎_elim, append-nil, arith, length-append}
use Rattle.std.specs.List.{flat_map}
use Rattle.std.proofs.lemmas.List.{take_at, take-append-le, drop-append-le, take-append-drop, length-drop, length-take-le, drop_all, get_or_append_left}
use Rattle.std.proofs.lemmas.Bool.{cond-true, cond-false, eqb-true, le-leb, lt-ltb, and_from, and_parts, cases_Bool, or_parts, eqb-false, ltb-false, false≢true}
use Rattle.std.proofs.lemmas.Option.{none-some, same_Some}
use Rattle.command_list.specs.declared.code.Code.{Code}
use Rattle.command_list.specs.declared.code.Code.TheVariants as code
use Rattle.command_list.specs.Numbers.{bytes, total, Fit}
use Rattle.command_list.specs.Commands.{Command, code_of, byte_of, fields, framed, record_of, size, in_range, readable}
use Rattle.command_list.specs.Decoding.{codes, among, code_named, Decoded, takes, wrong, decode, decode_named, Front, ended, first, broken, sized, read_frame, front}
use Rattle.command_list.specs.Files.{most_bytes, Verdict, accepted, refused, after, followed, records, has_version, file, encoded}
use Rattle.list_writer.proofs.Rows.{length_bytes}
use Rattle.list_writer.proofs.Bytewise.{number_fit, Bytes, bytes_drop, bytes_take}
use Rattle.command_list.proofs.Fronts.{said, front_whole, front_within}
use Rattle.list_writer.proofs.Trips.{decoded, decode_back, decode_is}

-- a code's byte names it, and no other byte does
named_byte : (k : Code) → code_named (byte_of k) ≡ Some k
named_byte code.BeginEvent = refl
named_byte code.EndEvent = refl
named_byte code.SetDescriptorHeaps = refl
named_byte code.SetGraphicsRootSignature = refl
named_byte code.SetComputeRootSignature = refl
named_byte code.SetPipelineState = refl
named_byte code.IASetPrimitiveTopology = refl
named_byte code.IASetVertexBuffers = refl
named_byte code.SetGraphicsRoot32BitConstant = refl
named_byte code.SetComputeRoot32BitConstant = refl
named_byte code.SetGraphicsRootDescriptorTable = refl
named_byte code.SetComputeRootDescriptorTable = refl
named_byte code.SetGraphicsRootConstantBufferView = refl
named_byte code.SetComputeRootConstantBufferView = refl
named_byte code.OMSetRenderTargets = refl
named_byte code.ClearRenderTargetView = refl
named_byte code.RSSetViewports = refl
named_byte code.RSSetScissorRects = refl
named_byte code.ResourceBarrier = refl
named_byte code.DrawInstanced = refl
named_byte code.Dispatch = refl
named_byte code.ExecuteIndirect = refl

byte_named : (ks : List Code) (b : ℕ) (k : Code) → among ks b ≡ Some k → byte_of k ≡ b
byte_named [] b k e = absurd (none-some _ e)
byte_named (j ∷ ks) b k e =
    ⊎_elim {A = eqb b (byte_of j) ≡ true} {B = eqb b (byte_of j) ≡ false}
    (λ t. ap byte_of (sym (same_Some _ _ (sym (cond-true _ _ _ t) ∙ e))) ∙ sym (eqb-true b (byte_of j) t))
    (λ f. byte_named ks b k (sym (cond-false _ _ _ f) ∙ e))
    (cases_Bool (eqb b (byte_of j)))

-- a command's record is read as the command, whatever follows it
pub front_record : (c : Command) (rest : List ℕ) → in_range c ≡ true → Fit (framed (code_of c) (fields c)) → front (record_of c ++ rest) ≡ first c (size c)
front_record c rest r f =
    let fs = fields c in
    let t = total fs in
    let x = 1 + t in
    let b = byte_of (code_of c) in
    let bs = record_of c ++ rest in
    let l = length_bytes fs in
    let two : (0 * 256 + x / 256 % 256) * 256 + x / 1 % 256 ≡ x = number_fit 2 x f.0 in
    let long : said bs ≡ x = omega arith in
    let kind : get_or bs 2 0 ≡ b = let one : 0 * 256 + b / 1 % 256 ≡ b = number_fit 1 b f.1.0 in omega arith in
    let la = length-append (bytes fs) rest in
    let far : length bs ≡ 3 + (length (bytes fs) + length rest) = omega arith in
    let ops : take (said bs - 1) (drop 3 bs) ≡ bytes fs = ap (λ n. take n (bytes fs ++ rest)) (omega arith) ∙ take_at (bytes fs) rest t l in
    front_whole bs (omega arith) (omega arith) (omega arith)
    ∙ ap (λ k. sized (decode_named (code_named k) (take (said bs - 1) (drop 3 bs))) (2 + said bs)) kind
    ∙ ap (λ o. sized (decode_named o (take (said bs - 1) (drop 3 bs))) (2 + said bs)) (named_byte (code_of c))
    ∙ ap (λ os. sized (decode (code_of c) os) (2 + said bs)) ops
    ∙ ap (λ d. sized d (2 + said bs)) (decoded c r f.1.1)
    ∙ ap (first c) (omega arith)

-- what the front of a file has to be where it is read as a command
pub record Fronts (bs : List ℕ) (c : Command) (n : ℕ) : Type 0 where
  pub three : 3 ≤ length bs
  pub some : 0 < said bs
  pub whole : said bs - 1 ≤ length bs - 3
  pub takes_up : 2 + said bs ≡ n
  pub says : decode_named (code_named (get_or bs 2 0)) (take (said bs - 1) (drop 3 bs)) ≡ takes c

first_same : {c d : Command} {m n : ℕ} → first c m ≡ first d n → (c ≡ d) × (m ≡ n)
first_same e = (cc, cc)

not_first : {c : Command} {r m : ℕ} → broken r ≡ first c m → ⊥
not_first e = let z : ◌≡◌ {A = ℕ} 0 1 = cc in omega arith

not_ended : {c : Command} {m : ℕ} → ended ≡ first c m → ⊥
not_ended e = let z : ◌≡◌ {A = ℕ} 0 1 = cc in omega arith

sized_is : (d : Decoded) (m n : ℕ) (c : Command) → sized d m ≡ first c n → (d ≡ takes c) × (m ≡ n)
sized_is (takes b) m n c e = let p = first_same e in (ap takes p.0, p.1)
sized_is (wrong r) m n c e = absurd (not_first e)

pub front_is : (bs : List ℕ) (c : Command) (n : ℕ) → front bs ≡ first c n → Fronts bs c n
unfolding front
front_is [] c n e = absurd (not_ended e)
front_is (a ∷ []) c n e = absurd (not_first e)
front_is (a ∷ b ∷ []) c n e = absurd (not_first e)
front_is (a ∷ b ∷ k ∷ bs) c n e =
    let test : Bool = eqb (a * 256 + b) 0 || ltb (length bs) (a * 256 + b - 1) in
    ⊎_elim {A = test ≡ true} {B = test ≡ false}
    (λ t. absurd (not_first (sym (ap read_frame (cond-true _ _ _ t)) ∙ e)))
    (λ f.
    let p = or_parts _ _ f in
    let far = ltb-false (length bs) (a * 256 + b - 1) p.1 in
    let same = sized_is _ _ n c (sym (ap read_frame (cond-false _ _ _ f)) ∙ e) in
    record { three = omega arith; some = positive (a * 256 + b) (eqb-false (a * 256 + b) 0 p.0); whole = omega arith; takes_up = same.1; says = same.0 })
    (cases_Bool test)
  where
    positive : (s : ℕ) → (s ≡ 0 → ⊥) → 0 < s
    positive zero h = absurd (h refl)
    positive (suc s) h = omega arith

-- bytes behind a record do not change how it is read
said_more : (bs ys : List ℕ) → 3 ≤ length bs → said (bs ++ ys) ≡ said bs
said_more bs ys h = ap₂ (λ x y. x * 256 + y) (get_or_append_left bs ys 0 0 (omega arith)) (get_or_append_left bs ys 0 1 (omega arith))

pub front_more : (bs ys : List ℕ) (c : Command) (n : ℕ) → front bs ≡ first c n → front (bs ++ ys) ≡ first c n
front_more bs ys c n e =
    let p = front_is bs c n e in
    let s = said_more bs ys p.three in
    let l = length-append bs ys in
    let w = p.whole in
    let h = p.three in
    let o = p.some in
    let d : drop 3 (bs ++ ys) ≡ drop 3 bs ++ ys = drop-append-le 3 bs ys h in
    let ops : take (said (bs ++ ys) - 1) (drop 3 (bs ++ ys)) ≡ take (said bs - 1) (drop 3 bs) =
    ap₂ (λ m q. take (m - 1) q) s d ∙ take-append-le (said bs - 1) (drop 3 bs) ys (simp length-drop (omega arith)) in
    front_whole (bs ++ ys) (omega arith) (omega arith) (omega arith)
    ∙ ap (λ k. sized (decode_named (code_named k) (take (said (bs ++ ys) - 1) (drop 3 (bs ++ ys)))) (2 + said (bs ++ ys))) (get_or_append_left bs ys 0 2 (omega arith))
    ∙ ap (λ q. sized (decode_named (code_named (get_or bs 2 0)) q) (2 + said (bs ++ ys))) ops
    ∙ ap (λ q. sized q (2 + said (bs ++ ys))) p.says
    ∙ ap (first c) (ap (λ m. 2 + m) s ∙ p.takes_up)

-- the commands of an accepted file
after_is : (c : Command) (v : Verdict) (cs : List Command) → after c v ≡ accepted cs → (ds : List Command) × (v ≡ accepted ds) × (c ∷ ds ≡ cs)
after_is c (accepted ds) cs e = (ds, refl, accepted_same e)
  where
    accepted_same : {xs ys : List Command} → accepted xs ≡ accepted ys → xs ≡ ys
    accepted_same p = cc
after_is c (refused n p) cs e = absurd (let z : ◌≡◌ {A = ℕ} 0 1 = cc in omega arith)

-- the three ways in which a file goes on
pub data Goes (n at : ℕ) (bs : List ℕ) (cs : List Command) : Type 0 where
  stops : front bs ≡ ended → cs ≡ [] → Goes n at bs cs
  leads : (c : Command) (k : ℕ) (ds : List Command) → front bs ≡ first c k → records n (at + k) (drop k bs) ≡ accepted ds → c ∷ ds ≡ cs → Goes n at bs cs

goes_by : (n at : ℕ) (bs : List ℕ) (cs : List Command) (f : Front) → front bs ≡ f → followed f at (λ k. records n (at + k) (drop k bs)) ≡ accepted cs → Goes n at bs cs
goes_by n at bs cs ended q e = stops q (sym (accepted_same e))
  where
    accepted_same : {xs ys : List Command} → accepted xs ≡ accepted ys → xs ≡ ys
    accepted_same p = cc
goes_by n at bs cs (first c k) q e = let a = after_is c (records n (at + k) (drop k bs)) cs e in leads c k a.0 q a.1 a.2
goes_by n at bs cs (broken r) q e = absurd (let z : ◌≡◌ {A = ℕ} 0 1 = cc in omega arith)

goes : (n at : ℕ) (bs : List ℕ) (cs : List Command) → records (suc n) at bs ≡ accepted cs → Goes n at bs cs
unfolding records
goes n at bs cs e = goes_by n at bs cs (front bs) refl e

-- only nothing is the end
pub ended_nil : (bs : List ℕ) → front bs ≡ ended → bs ≡ []
unfolding front
ended_nil [] e = refl
ended_nil (a ∷ []) e = absurd (let z : ◌≡◌ {A = ℕ} 0 1 = cc in omega arith)
ended_nil (a ∷ b ∷ []) e = absurd (let z : ◌≡◌ {A = ℕ} 0 1 = cc in omega arith)
ended_nil (a ∷ b ∷ k ∷ bs) e =
    ⊎_elim {A = test ≡ true} {B = test ≡ false}
    (λ t. absurd (broken_ended (sym (ap read_frame (cond-true _ _ _ t)) ∙ e)))
    (λ f. absurd (sized_ended _ _ (sym (ap read_frame (cond-false _ _ _ f)) ∙ e)))
    (cases_Bool test)
  where
    test : Bool
    test = eqb (a * 256 + b) 0 || ltb (length bs) (a * 256 + b - 1)

    broken_ended : {r : ℕ} → broken r ≡ ended → ⊥
    broken_ended p = let z : ◌≡◌ {A = ℕ} 0 1 = cc in omega arith

    first_ended : {c : Command} {m : ℕ} → first c m ≡ ended → ⊥
    first_ended p = let z : ◌≡◌ {A = ℕ} 0 1 = cc in omega arith

    sized_ended : (d : Decoded) (m : ℕ) → sized d m ≡ ended → ⊥
    sized_ended (takes c) m p = first_ended p
    sized_ended (wrong r) m p = broken_ended p

records_nil : (n at : ℕ) → records n at [] ≡ accepted []
unfolding records front
records_nil zero at = refl
records_nil (suc n) at = refl

records_first : (m at : ℕ) (bs : List ℕ) (d : Command) (j : ℕ) → front bs ≡ first d j → records (suc m) at bs ≡ after d (records m (at + j) (drop j bs))
unfolding records
records_first m at bs d j q = ap (λ f. followed f at (λ k. records m (at + k) (drop k bs))) q

-- one record more behind whole records
records_more : (n m at : ℕ) (bs rs : List ℕ) (cs : List Command) (c : Command) → length bs < n → length bs < m → records n at bs ≡ accepted cs → front rs ≡ first c (length rs)
    → records m at (bs ++ rs) ≡ accepted (cs ++ (c ∷ []))
records_more zero m at bs rs cs c h k e f = absurd (omega arith)
records_more (suc n) zero at bs rs cs c h k e f = absurd (omega arith)
records_more (suc n) (suc m) at bs rs cs c h k e f =
    elim (goes n at bs cs e) [
      | stops q z ↦
          ap (λ l. records (suc m) at (l ++ rs)) (ended_nil bs q)
          ∙ records_first m at rs c (length rs) f
          ∙ ap (λ l. after c (records m (at + length rs) l)) (drop_all (length rs) rs (omega arith))
          ∙ ap (after c) (records_nil m (at + length rs))
          ∙ ap (λ l. accepted (l ++ (c ∷ []))) (sym z)
      | leads d j ds q g z ↦
          let w = front_within bs d j q in
          let l = length-drop j bs in
          let ih : records m (at + j) (drop j bs ++ rs) ≡ accepted (ds ++ (c ∷ [])) = records_more n m (at + j) (drop j bs) rs ds c (omega (arith, w.0, w.1)) (omega (arith, w.0, w.1)) g f in
          records_first m at (bs ++ rs) d j (front_more bs rs d j q)
          ∙ ap (λ r. after d (records m (at + j) r)) (drop-append-le j bs rs w.1)
          ∙ ap (after d) ih
          ∙ ap (λ r. accepted (r ++ (c ∷ []))) z
    ]

-- a file has a byte at least
pub some_byte : (bs : List ℕ) → has_version bs ≡ true → 1 ≤ length bs
some_byte [] e = absurd (false≢true e)
some_byte (b ∷ bs) e = omega arith

refused_not : {n p : ℕ} {cs : List Command} → refused n p ≡ accepted cs → ⊥
refused_not e = let z : ◌≡◌ {A = ℕ} 0 1 = cc in omega arith

pub record Opens (bs : List ℕ) (cs : List Command) : Type 0 where
  pub version : has_version bs ≡ true
  pub rest : records (length bs) 1 (drop 1 bs) ≡ accepted cs

pub file_is : (bs : List ℕ) (cs : List Command) → file bs ≡ accepted cs → Opens bs cs
unfolding file
file_is bs cs e =
    ⊎_elim {A = has_version bs ≡ true} {B = has_version bs ≡ false}
    (λ t. record { version = t; rest = sym (cond-true _ _ _ t) ∙ e })
    (λ f. absurd (refused_not (sym (cond-false _ _ _ f) ∙ e)))
    (cases_Bool (has_version bs))

pub file_more : (bs : List ℕ) (cs : List Command) (c : Command) → file bs ≡ accepted cs → in_range c ≡ true → Fit (framed (code_of c) (fields c)) → length bs + size c ≤ most_bytes
    → file (bs ++ record_of c) ≡ accepted (cs ++ (c ∷ []))
unfolding file
file_more bs cs c e r f h =
    let o = file_is bs cs e in
    let rs = record_of c in
    let one = some_byte bs o.version in
    let lr : length rs ≡ size c = length_bytes (framed (code_of c) (fields c)) ∙ omega arith in
    let la = length-append bs rs in
    let ld = length-drop 1 bs in
    let p = and_parts _ _ o.version in
    let v : has_version (bs ++ rs) ≡ true = and_from _ _ (le-leb (length (bs ++ rs)) most_bytes (omega arith)) (ap (λ b. eqb b 1) (get_or_append_left bs rs 0 0 (omega arith)) ∙ p.1) in
    let whole : front rs ≡ first c (length rs) = ap front (sym (append-nil rs)) ∙ front_record c [] r f ∙ ap (first c) (sym lr) in
    cond-true _ _ _ v
    ∙ ap (records (length (bs ++ rs)) 1) (drop-append-le 1 bs rs one)
    ∙ records_more (length bs) (length (bs ++ rs)) 1 (drop 1 bs) rs cs c (omega arith) (omega arith) o.rest whole

-- a record that is read is its command's own
code_known : (o : Option Code) (ops : List ℕ) (c : Command) → decode_named o ops ≡ takes c → (j : Code) × (o ≡ Some j) × (decode j ops ≡ takes c)
code_known None ops c e = absurd (let z : ◌≡◌ {A = ℕ} 0 1 = cc in omega arith)
code_known (Some j) ops c e = (j, refl, e)

head_back : (a b k t : ℕ) → a < 256 → b < 256 → k < 256 → 1 + t ≡ a * 256 + b → ((1 + t) / 256 % 256 ≡ a) × ((1 + t) / 1 % 256 ≡ b) × (k / 1 % 256 ≡ k)
head_back a b k t p q r e = (omega arith, omega arith, omega arith)

pub front_back : (bs : List ℕ) (c : Command) (n : ℕ) → Bytes bs → front bs ≡ first c n → record_of c ≡ take n bs
front_back [] c n h e = absurd (let z = (front_is [] c n e).three in omega arith)
front_back (a ∷ []) c n h e = absurd (let z = (front_is (a ∷ []) c n e).three in omega arith)
front_back (a ∷ b ∷ []) c n h e = absurd (let z = (front_is (a ∷ b ∷ []) c n e).three in omega arith)
front_back (a ∷ b ∷ k ∷ bs) c n h e =
    let p = front_is (a ∷ b ∷ k ∷ bs) c n e in
    let m = a * 256 + b - 1 in
    let ops = take m bs in
    let j = code_known (code_named k) ops c p.says in
    let w = decode_back j.0 ops c (bytes_take m bs (λ i. h (suc (suc (suc i))))) j.2 in
    let some = p.some in
    let whole = p.whole in
    let up = p.takes_up in
    let lo : length ops ≡ m = length-take-le m bs (omega arith) in
    let lt : total (fields c) ≡ length ops = sym (length_bytes (fields c)) ∙ ap length w.wrote in
    let kb : byte_of (code_of c) ≡ k = ap byte_of w.same ∙ byte_named codes k j.0 j.1 in
    let d = head_back a b k (total (fields c)) (h 0) (h 1) (h 2) (omega arith) in
    ap₂ (λ x y. x ∷ y ∷ byte_of (code_of c) / 1 % 256 ∷ bytes (fields c)) d.0 d.1
    ∙ ap₂ (λ x l. a ∷ b ∷ x ∷ l) (ap (λ x. x / 1 % 256) kb ∙ d.2) w.wrote
    ∙ ap (λ x. take x (a ∷ b ∷ k ∷ bs)) (let far : suc (suc (suc m)) ≡ n = omega arith in far)

records_back : (n at : ℕ) (bs : List ℕ) (cs : List Command) → Bytes bs → length bs < n → records n at bs ≡ accepted cs → flat_map record_of cs ≡ bs
records_back zero at bs cs h l e = absurd (omega arith)
records_back (suc n) at bs cs h l e =
    elim (goes n at bs cs e) [
      | stops q z ↦ ap (flat_map record_of) z ∙ sym (ended_nil bs q)
      | leads d j ds q g z ↦
          let w = front_within bs d j q in
          let ld = length-drop j bs in
          let ih : flat_map record_of ds ≡ drop j bs = records_back n (at + j) (drop j bs) ds (bytes_drop j bs h) (omega (arith, w.0, w.1)) g in
          sym (ap (flat_map record_of) z) ∙ ap₂ (λ x y. x ++ y) (front_back bs d j h q) ih ∙ take-append-drop j bs
    ]

-- any file that the reader takes, rewritten from its commands, gives its own bytes
pub file_back : (bs : List ℕ) (cs : List Command) → Bytes bs → file bs ≡ accepted cs → encoded cs ≡ bs
file_back [] cs h e = absurd (let z = some_byte [] (file_is [] cs e).version in omega arith)
file_back (b ∷ bs) cs h e =
    let o = file_is (b ∷ bs) cs e in
    let v = eqb-true b 1 (and_parts _ _ o.version).1 in
    ap₂ (λ x y. x ∷ y) (sym v) (records_back (suc (length bs)) 1 bs cs (bytes_drop 1 (b ∷ bs) h) (omega arith) o.rest)

-- a command that is read has a record, of as many bytes as were read
pub front_readable : (bs : List ℕ) (c : Command) (n : ℕ) → Bytes bs → front bs ≡ first c n → (readable c ≡ true) × (size c ≡ n)
front_readable bs c n h e =
    let p = front_is bs c n e in
    let w = front_within bs c n e in
    let up = p.takes_up in
    let a = h 0 in
    let b = h 1 in
    let long : size c ≡ n = sym (omega (arith, length_bytes (framed (code_of c) (fields c)))) ∙ ap length (front_back bs c n h e) ∙ length-take-le n bs w.1 in
    let j = code_known (code_named (get_or bs 2 0)) (take (said bs - 1) (drop 3 bs)) c p.says in
    (and_from _ _ (decode_is j.0 (take (said bs - 1) (drop 3 bs)) c j.2).ranged (lt-ltb (total (fields c)) 65535 (omega arith)), long)
