-- The ends of a range, and tests of them.
use Rattle.std.specs.Prelude.{◌&&◌, ◌||◌, Bool, false, Option, Some, None}
use Rattle.expr_nodes.specs.Kinds.{ValueKind, is_number}
use Rattle.expr_nodes.specs.Typed.{Typed, Span, kind}
use Rattle.expr_nodes.specs.Seen.{seen}
use Rattle.value_fits.specs.declared.ends.Ends.{Ends as OwnEnds}

-- the ends of a range
pub record Ends : Type 0 where
  pub low : Typed
  pub high : Typed

-- the ends of an expression, if it is a range
abbrev pub ends_in : Typed → Option Ends
ends_in (Span i low high) = Some (record { low = low; high = high })
ends_in _ = None

-- ends of the program's own
abbrev pub seen_ends : OwnEnds → Ends
seen_ends e = record { low = seen e.low.now; high = seen e.high.now }

-- a test of the value itself, or of the ends of a range
abbrev pub any_end : (Typed → Bool) → Typed → Option Ends → Bool
any_end test t None = test t
any_end test t (Some e) = test e.low || test e.high

-- a range of numbers, given to a number
abbrev pub range_in : ValueKind → Option Ends → Bool
range_in k None = false
range_in k (Some e) = is_number k && (is_number (kind e.low) && is_number (kind e.high))
