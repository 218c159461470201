use Rattle.std.proofs.Common.{◌≡◌, ℕ, ◌-◌, List, length, take, drop, sym, ◌∙◌, ap, inl, inr, arith, length-drop, ltb-false, ltb-true, eqb-true, leb-false, leb-true}
use borrow.Author.Tests.{eqb-false}
use Rattle.std.proofs.lemmas.List.{take_rest}
use Rattle.command_list.specs.Seen.{number_of}
use Rattle.command_list.proofs.Fronts.{framing_none, framing_short, framing_cut, framing_read}
use Rattle.command_list.proofs.reader.Frame.take.Goals as goal
use Rattle.command_list.proofs.reader.Frame.take.Goals.{then-n-eq0-via-then-n-eq0, then-n-eq0-via-else-n-eq0+then-rest-n}

-- what follows a code, as a slice pattern has it
behind : (bs : List ℕ) → length (take (length bs - 3) (drop 3 bs)) ≡ length bs - 3
behind bs = ap length (take_rest bs 3) ∙ length-drop 3 bs

pub returns-then-n-eq0 : goal.returns-then-n-eq0
returns-then-n-eq0 c =
    let bs = c.args.bytes.now in (
      framing_cut bs c.in-len3-up.len_at_least
          (elim c.then-n-eq0.branch [
            | then-n-eq0-via-then-n-eq0 w ↦ inl (sym c.from_be_bytes-n.ensures ∙ w.if-n-eq0.true)
            | then-n-eq0-via-else-n-eq0+then-rest-n w ↦ inr (omega (arith, w.if-rest-n.true, behind bs, c.from_be_bytes-n.ensures))
          ]),
      (ap number_of c.at-then-n-eq0.ensures.0, c.at-then-n-eq0.ensures.1),
    )

pub returns-in-empty : goal.returns-in-empty
returns-in-empty c = framing_none c.args.bytes.now (omega (arith, eqb-true, leb-true, ltb-true))

pub returns-in_default : goal.returns-in_default
returns-in_default c = (
  framing_short c.args.bytes.now (omega (arith, eqb-false, leb-false, ltb-false)) (omega (arith, ltb-true, ltb-false, leb-true, leb-false)),
  (ap number_of c.at.ensures.0, c.at.ensures.1),
)

pub returns-else-rest-n : goal.returns-else-rest-n
returns-else-rest-n c =
    let bs = c.args.bytes.now in
    framing_read bs _ c.from_be_bytes-n.ensures c.in-len3-up.len_at_least (omega (arith, c.if-n-eq0.false))
    (omega (arith, c.if-rest-n.false, behind bs))
