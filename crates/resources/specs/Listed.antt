-- The changes that the program's own values stand for.
use Rattle.std.specs.Prelude.{List, map}
use Rattle.resources.specs.declared.barrier.ResourceBarrier.{ResourceBarrier}
use Rattle.resources.specs.Usages.{Usage}
use Rattle.resources.specs.Barriers.{Change}

-- one item, with the meaning of its usages
abbrev pub change_of : {U : Type 0} → (U → Usage) → ResourceBarrier U → Change
change_of usage b =
    record { resource = b.resource; from = usage b.usage.from; to = usage b.usage.to }

-- the items of a call
abbrev pub changes_of : {U : Type 0} → (U → Usage) → List (ResourceBarrier U) → List Change
changes_of usage bs = map (change_of usage) bs
