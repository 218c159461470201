use Rattle.std.proofs.Common.{[], ◌∷◌, get_or, arith}
use Rattle.command_list.specs.Commands.{SetRoot32BitConstant}
use Rattle.encoder.proofs.Coming.{coming_next, coming_fits, put_recorded, word_next}
use Rattle.encoder.proofs.flush.put_words.Goals as goal

pub put-requires-clause-fits : goal.put-requires-clause-fits
put-requires-clause-fits g c =
    let a = c.args in
    let w = c.loop-w.w in
    coming_fits _ _ _ (SetRoot32BitConstant a.half a.slot w (get_or a.words.now w 0) ∷ []) _ _ (word_next a.half a.slot w a.words.now (omega arith)) c.loop-w.invariant c.requires.fits

pub loop-w-preserved : goal.loop-w-preserved
loop-w-preserved g c =
    let a = c.args in
    let w = c.loop-w.w in
    coming_next _ _ _ _ _ _ (word_next a.half a.slot w a.words.now (omega arith)) c.loop-w.invariant _ (put_recorded _ _ _ _ c.put.ensures)
