use Rattle.std.proofs.Common.{◌<◌, ◌≤◌, ◌&&◌, ltb, length, sym, ap, ◌∙◌, arith}
use Rattle.layouts.specs.Owners.{of_group, held}
use Rattle.layouts.proofs.Owning.{gathers_none, gathers_more, gathers_past, gathers_all}
use Rattle.layouts.proofs.checks.RootParts.mask.Goals as goal
use Rattle.layouts.proofs.checks.RootParts.mask.Goals.{in-Some, in_default}

pub loop-info-init : goal.loop-info-init
loop-info-init g c = record { callable = c.requires; gathers = λ kind h. gathers_none kind c.args.self.now.groups }

pub loop-info-preserved : goal.loop-info-preserved
loop-info-preserved g c =
    let gs = c.args.self.now.groups in
    let i = c.loop-info.info-index in
    let l : i < length gs = omega arith in
    elim c.match-info.branch [
      | in-Some w ↦ rw w.mask-is (record {
        callable = c.loop-info.invariant.callable;
        gathers = λ kind h. gathers_more kind gs i c.loop-info.mask w.slots-mask.result l (c.loop-info.invariant.gathers kind h)
            (λ k. h w.in-Some.g w.slots-mask.result w.slots-mask.ensures k ∙ ap (λ o. ltb k 64 && held kind (of_group k o)) (sym w.in-Some.is));
      })
      | in_default w ↦ rw w.mask-is (record {
        callable = c.loop-info.invariant.callable;
        gathers = λ kind h. gathers_past kind gs i c.loop-info.mask l w.in_default.is (c.loop-info.invariant.gathers kind h);
      })
    ]

pub returns : goal.returns
returns g c =
    let l : length c.args.self.now.groups ≤ c.loop-info.info-index = omega arith in
    λ kind h. gathers_all kind c.args.self.now.groups c.loop-info.info-index c.loop-info.mask l (c.loop-info.invariant.gathers kind h)
