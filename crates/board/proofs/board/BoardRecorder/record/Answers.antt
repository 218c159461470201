use Rattle.std.proofs.lemmas.Bool.{and_parts}
use Rattle.board.specs.Boards.{device_of}
use Rattle.board.proofs.Spares.{sized, room_for_one, spares_made, board_taken}
use Rattle.board.proofs.board.BoardRecorder.record.Goals as goal

pub step-requires : goal.step-requires
step-requires g c =
    let s = c.args.self.now in
    let z = sized (g.C.Recordable.says c.args.command) _ _ _ c.in_ok-size.ensures c.in_ok-bytes.ensures in
    record { ranged = (and_parts _ _ z.readable).0; room = room_for_one _ (device_of s.state) _ _ _ z s.spare s.small }

pub invariant_of-self : goal.invariant_of-self
invariant_of-self g c =
    let s = c.args.self.now in
    let z = sized (g.C.Recordable.says c.args.command) _ _ _ c.in_ok-size.ensures c.in_ok-bytes.ensures in
    record { small = s.small; spare = spares_made _ (device_of s.state) _ _ _ _ z c.step.ensures s.spare }

pub returns-clause-asked : goal.returns-clause-asked
returns-clause-asked g c =
    let s = c.args.self.now in
    let z = sized (g.C.Recordable.says c.args.command) _ _ _ c.in_ok-size.ensures c.in_ok-bytes.ensures in
    board_taken _ s.state _ _ _ _ z c.step.ensures
