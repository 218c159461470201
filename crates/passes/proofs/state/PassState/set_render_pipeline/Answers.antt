use Rattle.std.proofs.Common.{Some}
use Rattle.passes.specs.State.{account}
use Rattle.passes.proofs.state.PassState.set_render_pipeline.Goals as goal

pub returns : goal.returns
returns c = λ i. record (account c.args.self.now) {
  pipeline = Some (record { handle = c.args.pipeline.now.handle; signature = c.signature.ensures i });
  roots = c.switch_to.ensures i;
  vertices = c.restride_all.ensures i;
}
