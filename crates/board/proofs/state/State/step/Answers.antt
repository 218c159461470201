use Rattle.std.proofs.Common.{◌-◌, ◌^◌, sym, ap, ◌∙◌, subst}
use Rattle.device.proofs.Steps.{effect_counts}
use Rattle.board.specs.Boards.{Spare}
use Rattle.board.proofs.state.State.step.Goals as goal

pub count_code-requires : goal.count_code-requires
count_code-requires g c = subst (λ f. Spare f 1 (2 ^ 64 - 1)) (sym (ap (λ d. d.counts) c.change.ensures ∙ effect_counts _ _)) c.requires.room.0
