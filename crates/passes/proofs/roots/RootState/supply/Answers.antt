use Rattle.std.proofs.Common.{◌≡◌, ℕ, ◌+◌, ◌-◌, List, length, get_or, ap, ◌∙◌, arith}
use borrow.Rule.Slice.PartMut.{put_mid}
use Rattle.passes.specs.declared.element.RootElement.TheVariants.{Immediates}
use Rattle.passes.specs.Account.{filled, overwritten, with_immediates}
use Rattle.passes.specs.State.{bound_of}
use Rattle.passes.proofs.Slots.{overwritten_lem}
use Rattle.passes.proofs.roots.RootState.supply.Goals as goal

pub returns : goal.returns
returns c =
    let a = c.args in
    let is = overwritten_lem a.at (a.at + length a.words.now - a.at) a.self.now.immediates a.words.now in
    let words : (λ w. get_or (put_mid a.at (a.at + length a.words.now - a.at) a.self.now.immediates c.copy_from_slice.new.self) w 0) ≡ overwritten a.at a.words.now (bound_of a.self.now).immediates =
    ap (λ (ys : List ℕ). λ w. get_or (put_mid a.at (a.at + length a.words.now - a.at) a.self.now.immediates ys) w 0) c.copy_from_slice.ensures.after ∙ (λ j w. is w (omega arith) (omega (arith, c.requires.within)) j) in
    c.fill.ensures ∙ ap (λ f. filled a.info.root_index Immediates (with_immediates f (bound_of a.self.now))) words
