use Rattle.std.proofs.Common.{◌≡◌, ◌+◌, ◌*◌, length, if◌then◌else◌, nat_le, None, ap, ◌∙◌}
use Rattle.command_list.proofs.RowPlaces.{row_within}
use Rattle.command_list.proofs.row.Row.nth.Goals as goal

pub returns : goal.returns
returns g c =
    let row = g.Self.Row in
    let bs = c.args.bytes.now in
    let place : c.in_ok-checked_mul.field-0 ≡ row.WIDTH * c.args.i = c.in_ok-checked_mul.ensures.1 ∙ ap (λ k. k * c.args.i) c.WIDTH.ensures in
    c.read.ensures
    ∙ ap (λ k. if nat_le (k + row.WIDTH) (length bs) then row.row_at k bs else None) place
    ∙ ap (λ t. if t then row.row_at (row.WIDTH * c.args.i) bs else None) (row_within row.WIDTH c.args.i (length bs) g.met.Self.Row.some)
