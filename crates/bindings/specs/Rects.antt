-- A rectangle by its ends.
use Rattle.std.specs.Prelude.{◌+◌, ◌^◌, ◌<◌}
use Rattle.bindings.specs.declared.rect.Rect.{Rect}
use Rattle.bindings.specs.declared.rect.Bounds.{Bounds}

-- its four ends
abbrev pub ends_of : Rect → Bounds
ends_of r = record { left = r.x; top = r.y; right = r.x + r.w; bottom = r.y + r.h }

-- its right and lower ends are signed numbers of 32 bits
abbrev pub Ends : Rect → Type 0
Ends r = (r.x + r.w < 2 ^ 31) × (r.y + r.h < 2 ^ 31)
