use Rattle.std.proofs.Common.{◌≡◌, false, sym, ◌∙◌, rules, tests}
use Rattle.layouts.specs.Owners.{special_at, immediates_at}
use Rattle.layouts.proofs.Owning.{owner_none}
use Rattle.layouts.proofs.layout.PipelineLayout.owner.Goals as goal

pub returns : goal.returns
returns c =
    let l = c.args.self.now in
    let s : special_at l.special_constants c.args.slot ≡ false = search (rules, tests) in
    let i : immediates_at l.immediates_info c.args.slot ≡ false = search (rules, tests) in
    owner_none l.special_constants l.immediates_info l.bind_group_infos c.args.slot s i
    (sym (l.table_slots c.args.slot) ∙ sym c.if-has.ensures)
    (sym (l.uniform_slots c.args.slot) ∙ sym c.if-has-2.ensures)
