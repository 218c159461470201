use Rattle.std.proofs.Common.{◌≡◌, ℕ, Bool, ◌&&◌, ltb, Some}
use Rattle.layouts.specs.declared.info.BindGroupInfo.{BindGroupInfo}
use Rattle.layouts.specs.declared.info.Owner.{Owner}
use Rattle.command_list.specs.Bits.{bit}
use Rattle.layouts.specs.Owners.{of_group, held}
use Rattle.layouts.proofs.Owning.{Gathers}
use Rattle.layouts.proofs.checks.RootParts.mask.Given as goal

abbrev pub invariant-loop-info : goal.invariant-loop-info
invariant-loop-info g l = record {
  callable : goal.F-IsAlwaysCallable g l.slots;
  gathers : (kind : Owner → Bool)
      → ((x : BindGroupInfo) (m : ℕ) → goal.F-post g l.slots x m → (k : ℕ) → bit m k ≡ (ltb k 64 && held kind (of_group k (Some x))))
      → Gathers kind l.self.groups l.info-index l.mask;
}
