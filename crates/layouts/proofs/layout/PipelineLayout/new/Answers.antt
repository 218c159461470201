use Rattle.layouts.proofs.Owning.{kept}
use Rattle.layouts.proofs.layout.PipelineLayout.new.Goals as goal

pub invariant_of-result : goal.invariant_of-result
invariant_of-result c =
    let k = kept c.args.signature c.args.total c.args.special c.args.immediates c.args.groups
    c.masks-tables.result.0 c.masks-tables.result.1 c.fits.result c.once.result
    c.if-signature-eq0.false c.fits.ensures c.if-not-fits.false c.once.ensures c.if-not-once.false
    c.masks-tables.ensures.tables c.masks-tables.ensures.uniforms in
    record { ok = k.0; table_slots = k.1; uniform_slots = k.2 }
