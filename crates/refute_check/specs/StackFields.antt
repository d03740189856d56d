-- What the fields of a stack stand for: its vector has memory for all of its room from the start.
use Rattle.std.specs.Prelude.{◌≤◌}
use Rattle.std.specs.Prelude.{reverse}
use Rattle.std.specs.Vec.{vec_capacity, vec_len}
use Rattle.refute_check.specs.declared.stack.Stack.TheInside.{Inside}
use Rattle.refute_check.specs.Stack.{Stacked}

abbrev pub stacked : Inside → Stacked
stacked s = record { items = reverse s.items.items; room = s.room }

pub record IsStack (s : Inside) : Type 0 where
  pub within : vec_len s.items ≤ s.room
  pub reserved : s.room ≤ vec_capacity s.items
