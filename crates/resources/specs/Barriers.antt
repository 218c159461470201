-- Changes of usage, and the barriers that they make.
use Rattle.std.specs.Prelude.{◌≡◌, ℕ, Bool, cond, ◌&&◌, ◌⊎◌, List, Some, None, Ok, Err, Option, Result, ◌==◌, nat_lt}
use Rattle.std.specs.List.{flat_map}
use Rattle.std.specs.Option.{option_to_list}
use Rattle.command_list.specs.declared.command.Barrier.{Barrier}
use Rattle.command_list.specs.declared.command.BarrierType.TheVariants.{Transition, Uav}
use Rattle.command_list.specs.declared.fault.Fault.{Fault}
use Rattle.command_list.specs.Seen.{number_of}
use Rattle.command_list.specs.Refusals.{Why, before, fault_at, first_from, AllPass, First}
use Rattle.resources.specs.Usages.{Usage, known, state_of, ordered}

-- a resource passes from one usage to another
pub record Change : Type 0 where
  pub resource : ℕ
  pub from : Usage
  pub to : Usage

-- all subresources of a resource
abbrev pub ALL : ℕ
ALL = 0xFFFF_FFFF

abbrev pub transition : ℕ → ℕ → ℕ → Barrier
transition r before after =
    record { kind = Transition; resource = r; subresource = ALL; before = before; after = after }

abbrev pub uav : ℕ → Barrier
uav r = record { kind = Uav; resource = r; subresource = 0; before = 0; after = 0 }

-- the barrier rule: unlike states make a transition; equal ones a UAV barrier where the usage
-- before needs one; else nothing
abbrev pub barrier_of : Change → Option Barrier
barrier_of c =
    cond (state_of c.from == state_of c.to)
    (cond (ordered c.from) (Some (uav c.resource)) None)
    (Some (transition c.resource (state_of c.from) (state_of c.to)))

-- all barriers of some changes, in their order
abbrev pub barriers_of : List Change → List Barrier
barriers_of cs = flat_map (λ c. option_to_list (barrier_of c)) cs

-- both usages have known flags only
abbrev pub in_range : Change → Bool
in_range c = known c.from && known c.to

-- there is a resource
abbrev pub present : Change → Bool
present c = nat_lt 0 c.resource

-- what is checked of changes, each check over all of them before the next: usages in range, 1; a
-- resource, 3. The first that fails decides
abbrev pub verdict : List Change → Option Why
verdict cs = before (fault_at 1 (first_from 0 in_range cs)) (fault_at 3 (first_from 0 present cs))

-- what the answer to these checks says of the changes
abbrev pub Decided : List Change → Result Unit Fault → Type 0
Decided cs (Ok u) = AllPass in_range cs × AllPass present cs
Decided cs (Err f) =
    ((number_of f.number ≡ 1) × First in_range cs f.place)
    ⊎ ((number_of f.number ≡ 3) × AllPass in_range cs × First present cs f.place)
