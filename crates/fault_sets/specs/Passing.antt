-- Places after the first fault so far.
use Rattle.std.specs.Prelude.{◌&&◌, ◌||◌, Bool, false, Option, Some, None, nat_eq, nat_lt}
use Rattle.type_heads.specs.osc_base.declared.fault.Place.{Place}
use Rattle.type_heads.specs.osc_base.declared.fault.Fault.{Fault}

-- a place is after another
abbrev pub is_after : Place → Place → Bool
is_after place other = nat_lt other.file place.file || (nat_eq other.file place.file && nat_lt other.token place.token)

-- a place is after that of the first fault so far
abbrev pub is_past : Option Fault → Place → Bool
is_past None place = false
is_past (Some f) place = is_after place f.place
