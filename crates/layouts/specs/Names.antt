-- The names that the owners of slots are shown by.
use Rattle.std.specs.Prelude.{ℕ, List, codes}
use Rattle.layouts.specs.declared.info.Owner.{Owner}
use Rattle.layouts.specs.declared.info.Owner.TheVariants.{Table, Uniform, Immediates, Special}

abbrev pub name_of : Owner → List ℕ
name_of Table = codes "table"
name_of Uniform = codes "uniform"
name_of Immediates = codes "immediates"
name_of Special = codes "special constants"
