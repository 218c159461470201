use Rattle.std.proofs.Common.{length, sym, refl, ap, ◌∙◌, arith}
use Rattle.std.proofs.lemmas.List.{take_all}
use Rattle.command_list.specs.Files.{file, is_accepted}
use Rattle.device.specs.Devices.{play, start}
use Rattle.list_bytes.specs.Listed.{commands_in}
use Rattle.list_play.proofs.Passes.{filled}
use Rattle.list_play.proofs.board_of.Goals as goal

pub returns-clause-state : goal.returns-clause-state
returns-clause-state c =
    let bs = c.args.file.now in
    let w = c.in_ok-play.ensures in (
      ap is_accepted w.says,
      w.recorded.device ∙ ap (play w.commands) c.new-board.ensures.0 ∙ ap (λ v. play (commands_in v) start) (sym (ap file (take_all (length bs) bs (omega arith)) ∙ w.says)),
    )

pub returns-clause-played : goal.returns-clause-played
returns-clause-played c =
    let n = c.new-board.ensures in
    filled _ _ _ _ n.0 n.1 n.2 refl c.in_ok-play.ensures
