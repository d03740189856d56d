-- Entries of a plan whose wishes are even, or like other slots.
use Rattle.std.specs.Prelude.{ℕ, ◌+◌, ◌-◌, ◌*◌, min, Some, None, ℤ, pos, ◌-ℤ◌}
use Rattle.search_plans.specs.declared.wish.Share.{Share}
use Rattle.search_plans.specs.declared.wish.Mean.{Mean}
use Rattle.search_plans.specs.declared.wish.Wish.TheVariants.{Even, Like}
use Rattle.search_plans.specs.declared.wish.Entry.{Entry}
use Rattle.vehicle_plans.specs.declared.grid.Grid.{Grid}
use Rattle.vehicle_plans.specs.declared.grid.Quantity.{Quantity}
use Rattle.vehicle_plans.specs.declared.grid.Quantity.TheVariants.{Position, Speed}
use Rattle.vehicle_plans.specs.Grids.{numbered, slot_at}

-- a number as one that counts a share, or the greatest such number
unfoldable pub counted : ℕ → ℤ
counted number = pos (min number 2147483647)

abbrev pub share : ℤ → ℕ → Share
share times slot = record { times = times; slot = slot }

abbrev pub none : Share
none = share (pos 0) 0

-- each multiple of a step alike
unfoldable pub even : ℕ → ℕ → Entry
even slot step = record { slot = slot; wish = Even step }

abbrev pub mean : Share → Share → Share → Share → ℕ → Mean
mean first second third fourth over = record { first = first; second = second; third = third; fourth = fourth; over = over }

-- the value of another slot
unfoldable pub like_one : ℕ → ℕ → Entry
like_one slot other = record { slot = slot; wish = Like (mean (share (pos 1) other) none none none 1) None 1 }

-- the value in the middle of two others
unfoldable pub like_both : ℕ → ℕ → ℕ → Entry
like_both slot left right = record { slot = slot; wish = Like (mean (share (pos 1) left) (share (pos 1) right) none none 2) None 1 }

-- a vehicle's quantity at a tick, as at another
abbrev pub kept : Grid → Quantity → ℕ → ℕ → ℕ → Entry
kept g quantity v a b = like_one (slot_at g quantity v b) (slot_at g quantity v a)

-- a vehicle's quantity at a tick, in the middle of what it is at two others
abbrev pub between : Grid → Quantity → ℕ → ℕ → ℕ → ℕ → Entry
between g quantity v a c b = like_both (slot_at g quantity v c) (slot_at g quantity v a) (slot_at g quantity v b)

-- The position at the end of a block in which the speed changes evenly: that at its start, and the ticks' length times the sum of
-- the speeds. It is a whole number of steps of the tick's length away.
unfoldable pub reached : Grid → ℕ → ℕ → ℕ → Entry
reached g v a b = record {
  slot = slot_at g Position v b;
  wish = Like
      (mean (share (pos 2) (slot_at g Position v a))
      (share (counted (g.tick * (b - a + 1))) (slot_at g Speed v a))
      (share (counted (g.tick * (b - a - 1))) (slot_at g Speed v b))
      none 2)
      (Some (slot_at g Position v a)) g.tick;
}

-- the speed at a tick in the midst of a block, by which the vehicle gets from its position at the start to that at the end
unfoldable pub passed : Grid → ℕ → ℕ → ℕ → ℕ → Entry
passed g v a c b = record {
  slot = slot_at g Speed v c;
  wish = Like
      (mean (share (pos 2) (slot_at g Position v b))
      (share (pos 0 -ℤ pos 2) (slot_at g Position v a))
      (share (pos 0 -ℤ counted (g.tick * (c - a + 1))) (slot_at g Speed v a))
      (share (pos 0 -ℤ counted (g.tick * (b - c - 1))) (slot_at g Speed v b))
      (numbered (g.tick * (b - a))))
      None 1;
}
