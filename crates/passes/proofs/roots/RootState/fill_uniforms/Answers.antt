use Rattle.std.proofs.Common.{◌≡◌, ap, ◌∙◌, ⊎_elim, inl, inr, arith}
use Rattle.passes.specs.State.{bound_of}
use Rattle.passes.proofs.Filling.{filling_start, filling_turn, filling_next, filling_done}
use Rattle.passes.proofs.roots.RootState.fill_uniforms.Goals as goal

pub loop-base-init : goal.loop-base-init
loop-base-init c =
    let zip = c.zip-base-items in
    let is = c.into_iter-base-iterator.ensures.into_iter_gives in
    let bs : c.into_iter-base-iterator.result.a.rest.now ≡ c.args.bases.now = ap (λ z. z.a.rest.now) is ∙ ap (λ z. z.rest.now) zip.ensures.first ∙ c.iter.ensures.rest in
    let os : c.into_iter-base-iterator.result.b.rest.now ≡ c.args.offsets.now = ap (λ z. z.b.rest.now) is ∙ ap (λ z. z.rest.now) zip.ensures.second ∙ c.iter-2.ensures.rest in
    filling_start c.args.first _ _ _ _ (bound_of c.args.self.now) bs os c.requires.same c.requires.near c.requires.within

pub overflow_add-base : goal.overflow_add-base
overflow_add-base c = omega (arith, (filling_turn _ _ _ _ _ _ _ _ _ c.in-Some.ensures.steps c.loop-base.invariant).near, c.from.ensures)

pub fill-requires : goal.fill-requires
fill-requires c = (filling_turn _ _ _ _ _ _ _ _ _ c.in-Some.ensures.steps c.loop-base.invariant).within

pub overflow_add-slot : goal.overflow_add-slot
overflow_add-slot c = omega (arith, (filling_turn _ _ _ _ _ _ _ _ _ c.in-Some.ensures.steps c.loop-base.invariant).within)

pub loop-base-preserved : goal.loop-base-preserved
loop-base-preserved c = filling_next _ _ _ _ _ _ _ _ _ _ _ c.in-Some.ensures.steps c.from.ensures c.fill.ensures c.loop-base.invariant

pub returns : goal.returns
returns c = filling_done _ _ _ _ _ (⊎_elim (λ z. inl z.1.0) (λ z. inr z.1.0) c.in-None.ensures.steps) c.loop-base.invariant
