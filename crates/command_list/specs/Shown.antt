-- What numbers, faults and halves are shown by.
use Rattle.std.specs.Prelude.{ℕ, List, ◌++◌, codes, decimal}
use Rattle.command_list.specs.declared.command.Half.{Half}
use Rattle.command_list.specs.declared.command.Half.TheVariants.{Graphics, Compute}
use Rattle.command_list.specs.declared.fault.Fault.{Fault}
use Rattle.command_list.specs.declared.fault.Number.{Number}
use Rattle.command_list.specs.declared.fault.Number.TheVariants as number
use Rattle.command_list.specs.Seen.{number_of}

abbrev pub half_name : Half → List ℕ
half_name Graphics = codes "graphics"
half_name Compute = codes "compute"

-- why a call was refused
abbrev pub reason : Number → List ℕ
reason number.Range = codes "something is out of its range"
reason number.Text = codes "a label is not UTF-8"
reason number.Absent = codes "an entry, a handle or a resource is not there"
reason number.Count = codes "there are too many or too few buffers or offsets"
reason number.Extent = codes "an address, a size or an end is too large"
reason number.Layout = codes "another layout has the current signature"
reason number.Pipeline = codes "no pipeline of the current signature is set"
reason number.Unfit = codes "a root slot is not set as its layout says"
reason number.Scratch = codes "the scratch does not take the barriers"
reason number.Full = codes "there is not enough space"
reason number.Slots = codes "a layout's slots do not fit"
reason number.Owners = codes "a layout's slot has no owner, or two"
reason number.Version = codes "it is empty, longer than 65536 bytes, or not of version 1"
reason number.Cut = codes "a record is cut short or of length 0"
reason number.Unknown = codes "a record's code is not known"
reason number.Length = codes "a record's length is wrong for its code"
reason number.Operand = codes "an operand is out of its range"

-- a refusal in a line
abbrev pub line : Fault → List ℕ
line f =
    codes "number "
    ++ (decimal (number_of f.number)
    ++ (codes ", place " ++ (decimal f.place ++ (codes ": " ++ reason f.number))))
