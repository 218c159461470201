use Rattle.board.proofs.Spares.{spares_start}
use Rattle.board.proofs.board.BoardRecorder.start_anew.Goals as goal

pub invariant_of-self-clause-spare : goal.invariant_of-self-clause-spare
invariant_of-self-clause-spare c = spares_start _ c.args.self.now.most c.new-self.ensures
