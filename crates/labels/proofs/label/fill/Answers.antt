use Rattle.std.proofs.Common.{◌<◌, length, IsUtf8, ap, ◌∙◌, arith, rules}
use Rattle.std.specs.Str.Iter.{encode_utf16_rest, encode_utf16_pending}
use Rattle.std.specs.Str.{chars}
use Rattle.std.proofs.lemmas.List.{length_push, length-set}
use Rattle.labels.specs.Unicode.{utf16s}
use Rattle.labels.proofs.Texts.{text_units_le}
use Rattle.labels.proofs.Turns.{coming, coming_next, all_more, unit_room, front_more, none_coming}
use Rattle.labels.proofs.label.fill.Goals as goal
use Rattle.labels.proofs.label.fill.Goals.{In-Some}

room : (c : goal.In-Some) → c.loop-unit.n < 256
room c =
    let s = c.loop-unit.unit-iterator in
    let t = c.next.new.self in
    let inv = c.loop-unit.invariant in
    let n = coming_next (encode_utf16_pending s) (encode_utf16_rest s) (encode_utf16_pending t) (encode_utf16_rest t) c.in-Some.unit inv.3 c.in-Some.ensures.steps in
    let r = unit_room (utf16s (chars c.args.text.now)) c.loop-unit.yielded (coming (encode_utf16_pending s) (encode_utf16_rest s)) inv.2 c.in-Some.unit (coming (encode_utf16_pending t) (encode_utf16_rest t)) n.0 in
    let u : IsUtf8 c.args.text.now = search rules in
    omega (arith, r, inv.0, text_units_le c.args.text.now u, c.requires)

pub bounds-units-n : goal.bounds-units-n
bounds-units-n c = omega (arith, room (goal.at.bounds-units-n c).In-Some)

pub loop-unit-preserved : goal.loop-unit-preserved
loop-unit-preserved c =
    let s = c.loop-unit.unit-iterator in
    let t = c.next.new.self in
    let inv = c.loop-unit.invariant in
    let ys = c.loop-unit.yielded in
    let x = c.in-Some.unit in
    let h = room (goal.at.loop-unit-preserved c).In-Some in
    let n = coming_next (encode_utf16_pending s) (encode_utf16_rest s) (encode_utf16_pending t) (encode_utf16_rest t) x inv.3 c.in-Some.ensures.steps in (
      omega (arith, length_push ys x, inv.0),
      front_more c.loop-unit.units ys c.loop-unit.n x (omega (arith, h, inv.4)) inv.1,
      all_more (utf16s (chars c.args.text.now)) ys (encode_utf16_pending s) (encode_utf16_rest s) (encode_utf16_pending t) (encode_utf16_rest t) x inv.2 n.0,
      n.1,
      length-set c.loop-unit.units c.loop-unit.n x ∙ inv.4,
    )

pub returns : goal.returns
returns c =
    let s = c.loop-unit.unit-iterator in
    let inv = c.loop-unit.invariant in
    let e = c.in-None.ensures.steps in
    let w = none_coming (utf16s (chars c.args.text.now)) c.loop-unit.yielded (encode_utf16_pending s) (encode_utf16_rest s) inv.2 e.0 e.1 in
    let u : IsUtf8 c.args.text.now = search rules in
    record {
      count = omega (arith, inv.0, ap length w, text_units_le c.args.text.now u);
      front = inv.1 ∙ w;
      held = inv.4;
    }
