use Rattle.std.proofs.Common.{rules, ◌+◌, ◌*◌, ◌/◌, length, if◌then◌else◌, nat_le, is_some, None, refl, ap, ◌∙◌, arith}
use Rattle.std.proofs.lemmas.Iterator.{YieldsList-from_range}
use Rattle.std.proofs.lemmas.Iterator.Search.{all_from_yields_List}
use Rattle.command_list.proofs.RowPlaces.{whole_places}
use Rattle.command_list.proofs.row.Row.are_rows.Goals as goal

pub returns : goal.returns
returns g c =
    let row = g.Self.Row in
    let bs = c.args.bytes.now in
    all_from_yields_List (λ i. is_some (if nat_le (row.WIDTH * i + row.WIDTH) (length bs) then row.row_at (row.WIDTH * i) bs else None)) _ _ _ c.all.ensures.ran (YieldsList-from_range 0 _ _ refl (let e = ap (λ w. length bs / w) c.WIDTH.ensures in omega (arith, e))) (λ x b q k. search rules)
    ∙ whole_places (λ i. row.row_at (row.WIDTH * i) bs) row.WIDTH (length bs) g.met.Self.Row.some
    ∙ g.met.Self.Row.each bs
