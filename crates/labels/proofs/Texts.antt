-- The library's UTF-8 is the standard's, a text has one label, and a label can be recorded.
use Rattle.std.proofs.Common.{◌≡◌, ℕ, ◌*◌, ◌<◌, ◌≤◌, true, ltb, List, [], ◌∷◌, ◌++◌, length, IsUtf8, sym, refl, ap, ◌∙◌, ap₂, inl, inr, arith, length-append}
use lib.Utf8.{encode, encodes, scalar, scalars, scalar_cases}
use Rattle.std.specs.List.{flat_map}
use Rattle.std.specs.Str.{chars}
use Rattle.std.proofs.lemmas.Bool.{and_parts, and_from, lt-ltb, le-ltb, le-leb}
use Rattle.std.proofs.lemmas.List.{length_push}
use Rattle.std.proofs.lemmas.Str.{chars_from_encodes, encodes-chars, scalars-chars, length-encode}
use Rattle.command_list.specs.Numbers.{total}
use Rattle.command_list.specs.Commands.{ends_with_zero, unit}
use Rattle.labels.specs.Unicode.{Scalar, Scalars, utf8, utf8s, utf16, utf16s, Encodes, WellFormed}
use Rattle.labels.specs.Labels.{IsLabel, label_units, Recordable}

scalar_true : (c : ℕ) → Scalar c → scalar c ≡ true
scalar_true c (inl h) = rw (lt-ltb c 0xD800 h)
scalar_true c (inr (h, k)) = let low : 0xD800 ≤ c = omega arith in rw (le-ltb c 0xD800 low, le-leb 0xE000 c h, lt-ltb c 0x110000 k)

pub scalars_true : (cs : List ℕ) → Scalars cs → scalars cs ≡ true
scalars_true [] s = refl
scalars_true (c ∷ cs) (s, ss) = and_from (scalar c) (scalars cs) (scalar_true c s) (scalars_true cs ss)

pub true_scalars : (cs : List ℕ) → scalars cs ≡ true → Scalars cs
true_scalars [] e = tt
true_scalars (c ∷ cs) e = let p = and_parts (scalar c) (scalars cs) e in (scalar_cases c p.0, true_scalars cs p.1)

pub utf8_is : (c : ℕ) → utf8 c ≡ encode c
unfolding encode
utf8_is c = refl

pub utf8s_is : (cs : List ℕ) → utf8s cs ≡ encodes cs
utf8s_is [] = refl
utf8s_is (c ∷ cs) = ap₂ (λ (x y : List ℕ). x ++ y) (utf8_is c) (utf8s_is cs)

-- ---- both meanings of a text

pub formed_utf8 : (bs : List ℕ) → WellFormed bs → IsUtf8 bs
formed_utf8 bs (cs, (s, e)) = (cs, (scalars_true cs s, sym (utf8s_is cs) ∙ e))

pub utf8_formed : (bs : List ℕ) → IsUtf8 bs → WellFormed bs
utf8_formed bs (cs, (s, e)) = (cs, (true_scalars cs s, utf8s_is cs ∙ e))

-- what a text encodes is one list of scalar values
pub encoded_once : (bs cs : List ℕ) → Encodes cs bs → cs ≡ chars bs
encoded_once bs cs (s, e) = let t = sym (utf8s_is cs) ∙ e in chars_from_encodes cs bs (cs, (scalars_true cs s, t)) t

pub is_label : (bs : List ℕ) → IsUtf8 bs → IsLabel bs (label_units bs)
is_label bs u = (chars bs, (true_scalars (chars bs) (scalars-chars bs u), utf8s_is (chars bs) ∙ encodes-chars bs u), refl)

pub label_is : (bs us : List ℕ) → IsLabel bs us → us ≡ label_units bs
label_is bs us (cs, s, e) = e ∙ ap (λ (l : List ℕ). utf16s l ++ 0 ∷ []) (encoded_once bs cs s)

-- ---- how many units there are

utf16_le : (c : ℕ) → length (utf16 c) ≤ length (encode c)
utf16_le c = rw (length-encode c) (grind arith)

pub units_le : (cs : List ℕ) → length (utf16s cs) ≤ length (encodes cs)
units_le [] = omega arith
units_le (c ∷ cs) =
    let a = length-append (utf16 c) (utf16s cs) in
    let b = length-append (encode c) (encodes cs) in
    omega (arith, a, b, utf16_le c, units_le cs)

pub text_units_le : (bs : List ℕ) → IsUtf8 bs → length (utf16s (chars bs)) ≤ length bs
text_units_le bs u = omega (arith, units_le (chars bs), ap length (encodes-chars bs u))

-- ---- they can be recorded

pub ends_zero : (us : List ℕ) → ends_with_zero (us ++ 0 ∷ []) ≡ true
ends_zero [] = refl
ends_zero (u ∷ []) = refl
ends_zero (u ∷ v ∷ us) = ends_zero (v ∷ us)

pub total_units : (us : List ℕ) → total (flat_map unit us) ≡ 2 * length us
total_units [] = refl
total_units (u ∷ us) = let ih = total_units us in omega arith

pub recordable : (us : List ℕ) → length us ≤ 256 → Recordable (us ++ 0 ∷ [])
recordable us h =
    let vs = us ++ 0 ∷ [] in
    let l = length_push us 0 in
    let t : total (flat_map unit vs) < 65535 = omega (arith, l, total_units vs) in
    (and_from (ends_with_zero vs) (ltb (total (flat_map unit vs)) 65535) (ends_zero us) (lt-ltb (total (flat_map unit vs)) 65535 t), omega (arith, l), omega (arith, l))
