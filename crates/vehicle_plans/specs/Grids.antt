-- The slots of a scene's vehicles by their places.
use Rattle.std.specs.Prelude.{ℕ, ◌+◌, ◌*◌, ◌/◌, min, max}
use Rattle.vehicle_plans.specs.declared.grid.Grid.{Grid}
use Rattle.vehicle_plans.specs.declared.grid.Quantity.{Quantity}
use Rattle.vehicle_plans.specs.declared.grid.Quantity.TheVariants.{Lane, Position, Speed}

-- a number, or the greatest of 32 bits. Scenes have fewer slots than that
unfoldable pub numbered : ℕ → ℕ
numbered number = min number 4294967295

-- the place of a quantity among those of a vehicle at a tick
abbrev pub own_of : Quantity → ℕ
own_of Lane = 0
own_of Position = 1
own_of Speed = 2

-- the slot of a vehicle's quantity at a tick
unfoldable pub slot_at : Grid → Quantity → ℕ → ℕ → ℕ
slot_at g quantity vehicle tick = numbered (g.first + (vehicle * (g.ticks + 1) + tick) * 3 + own_of quantity)

-- how many ticks a block has: 20 blocks at most, and none of fewer than 10 ticks but the last
abbrev pub block_length : Grid → ℕ
block_length g = max (g.ticks / 20 + 1) 10
