use Rattle.std.proofs.Common.{Some, None, ap, ◌∙◌, arith}
use Rattle.device.specs.Devices.{written, words, update}
use Rattle.device.proofs.Arrays.{read_set}
use Rattle.board.specs.Boards.{roots_of}
use Rattle.board.proofs.state.RootHalf.put_word.Goals as goal

pub returns : goal.returns
returns c =
    let before = c.words-words in
    c.put_slot.ensures
    ∙ ap (λ f. written c.args.i (words f) (roots_of c.args.self.now))
    (read_set (λ x. x) before.result c.args.w (Some c.args.value) None (omega (arith, before.ensures.long)) ∙ ap (λ f. update f c.args.w (Some c.args.value)) before.ensures.same)
