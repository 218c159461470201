use Rattle.std.proofs.Common.{◌≡◌, ◌+◌, ◌≤◌, length, take, set, IsUtf8, sym, ap, ◌∙◌, subst, inr, arith, rules}
use Rattle.std.specs.Str.{chars}
use Rattle.std.specs.Result.{IsErrAnd}
use Rattle.std.proofs.lemmas.Result.{err_from_is_err_and}
use Rattle.command_list.specs.Seen.{IsFault}
use Rattle.labels.specs.Unicode.{utf16s, WellFormed}
use Rattle.labels.specs.Labels.{label_units, Recordable, IsLabel}
use Rattle.labels.proofs.Texts.{formed_utf8, utf8_formed, is_label, label_is, recordable, text_units_le}
use Rattle.labels.proofs.Table.{tabled, formed}
use Rattle.labels.proofs.Turns.{front_more}
use Rattle.labels.proofs.label.Label.new.Goals as goal
use Rattle.labels.proofs.label.Label.new.Goals.{After-fill-n}

-- the text is that of the bytes, which are UTF-8
text_is : (c : goal.After-fill-n) → (c.in_ok-text.text.now ≡ c.args.bytes.now) × IsUtf8 c.args.bytes.now
text_is c = search rules

-- the units that the label is made with are those of its bytes
made : (c : goal.After-fill-n) → take (c.fill-n.result + 1) (set c.fill-n.new.units c.fill-n.result 0) ≡ label_units c.args.bytes.now
made c =
    let t = text_is c in
    front_more c.fill-n.new.units (utf16s (chars c.in_ok-text.text.now)) c.fill-n.result 0
    (omega (arith, c.fill-n.array_long, c.fill-n.ensures.count, ap length t.0)) c.fill-n.ensures.front
    ∙ ap label_units t.0

pub returns-in_err-text : goal.returns-in_err-text
returns-in_err-text c =
    let utf8 : IsUtf8 c.args.bytes.now → ⊥ = search rules in
    let e : IsErrAnd c.from_residual.result (λ f. IsFault f 2 0) = search rules in
    let p = err_from_is_err_and c.from_residual.result e in
    let no : WellFormed c.args.bytes.now → ⊥ = λ w. utf8 (formed_utf8 c.args.bytes.now w) in
    rw p.1 (inr (p.2, c.if-bytes-gt-MOST_BYTES.false, no, λ t. no (formed t)))

pub invariant_of-result : goal.invariant_of-result
invariant_of-result c =
    let at = (goal.at.invariant_of-result c).After-fill-n in
    let t = text_is at in
    let us = utf16s (chars c.args.bytes.now) in
    let l : length us ≤ 256 = omega (arith, text_units_le c.args.bytes.now t.1, c.if-bytes-gt-MOST_BYTES.false) in
    let w : c.fill-n.result + 1 ≤ 257 = omega (arith, c.fill-n.ensures.count, ap length t.0) in
    record { within = w; recordable = subst Recordable (sym (made at)) (recordable us l) }

pub returns : goal.returns
returns c =
    let at = (goal.at.returns c).After-fill-n in
    let m = made at in
    let u = (text_is at).1 in
    let w = utf8_formed c.args.bytes.now u in
    record {
      short = c.if-bytes-gt-MOST_BYTES.false;
      formed = w;
      tabled = tabled c.args.bytes.now w;
      is = subst (IsLabel c.args.bytes.now) (sym m) (is_label c.args.bytes.now u);
      only = λ vs i. label_is c.args.bytes.now vs i ∙ sym m;
      units = m;
    }
