use Rattle.std.proofs.Common.{arith}
use Rattle.encoder.proofs.flush.RootTableTable.write.Goals as goal

pub put_words-requires-clause-few : goal.put_words-requires-clause-few
put_words-requires-clause-few g c = omega (arith, c.used_immediates.ensures.few)
