use Rattle.std.proofs.Common.{refl}
use Rattle.passes.specs.declared.element.RootElement.TheVariants.{Empty}
use Rattle.passes.specs.Account.{nothing_bound}
use Rattle.device.proofs.Arrays.{read_replicate}
use Rattle.passes.proofs.Slots.{mask_none}
use Rattle.passes.proofs.roots.RootState.new.Goals as goal

pub returns : goal.returns
returns c =
    let elements = read_replicate 64 Empty Empty refl in
    let words = read_replicate 32 0 0 refl in
    λ i. record nothing_bound { elements = λ k. elements k i; immediates = λ w. words w i; touched = mask_none i }
