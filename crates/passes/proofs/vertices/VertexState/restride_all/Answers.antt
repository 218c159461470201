use Rattle.std.proofs.Common.{cond, None, slice_index_or, sym, ap, arith}
use Rattle.std.proofs.lemmas.Bool.{lt-ltb}
use Rattle.passes.specs.State.{views_of}
use Rattle.passes.specs.Account.{strides_of}
use Rattle.passes.proofs.Strides.{strided_next}
use Rattle.passes.proofs.vertices.VertexState.restride_all.Goals as goal

pub loop-slot-preserved : goal.loop-slot-preserved
loop-slot-preserved c =
    strided_next (strides_of c.args.strides.now) c.loop-slot.slot _ (views_of c.args.self.now) (views_of c.loop-slot.self) (views_of c.restride.new.self) (sym (ap (λ b. cond b (slice_index_or c.args.strides.now c.loop-slot.slot None) None) (lt-ltb c.loop-slot.slot 16 (omega arith)))) c.loop-slot.invariant c.restride.ensures
