use Rattle.std.proofs.Common.{◌≡◌, ◌++◌, length, take, IsUtf8}
use Rattle.std.specs.Str.Iter.{encode_utf16_rest, encode_utf16_pending}
use Rattle.std.specs.Str.{chars}
use Rattle.labels.specs.Unicode.{utf16s}
use Rattle.labels.proofs.label.fill.Given as goal

abbrev pub invariant-loop-unit : goal.invariant-loop-unit
invariant-loop-unit l =
    (l.n ≡ length l.yielded) × (take l.n l.units ≡ l.yielded)
    × (utf16s (chars l.text) ≡ l.yielded ++ (encode_utf16_pending l.unit-iterator ++ utf16s (chars (encode_utf16_rest l.unit-iterator))))
    × IsUtf8 (encode_utf16_rest l.unit-iterator) × (length l.units ≡ 257)
