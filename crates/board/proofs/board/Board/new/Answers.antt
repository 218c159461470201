use Rattle.board.proofs.Spares.{spares_start}
use Rattle.board.proofs.board.Board.new.Goals as goal

pub invariant_of-result-clause-spare : goal.invariant_of-result-clause-spare
invariant_of-result-clause-spare c = spares_start _ c.args.most c.new.ensures
