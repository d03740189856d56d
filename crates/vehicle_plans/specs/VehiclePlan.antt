-- The plan of a scene with vehicles: choices, the first vehicle's place, phases and values; the vehicles at the first tick; then
-- block after block, the end first; then all other positions.
use Rattle.std.specs.Prelude.{ℕ, zero, suc, ◌+◌, ◌-◌, ◌*◌, ◌/◌, min, cond, nat_eq, nat_lt, List, [], ◌∷◌, ◌++◌, flat_map}
use Rattle.std.specs.List.{range_with_len}
use Rattle.search_plans.specs.declared.wish.Wish.TheVariants.{Around}
use Rattle.search_plans.specs.declared.wish.Entry.{Entry}
use Rattle.vehicle_plans.specs.declared.grid.Grid.{Grid}
use Rattle.vehicle_plans.specs.declared.grid.Quantity.{Quantity}
use Rattle.vehicle_plans.specs.declared.grid.Quantity.TheVariants.{Lane, Position, Speed}
use Rattle.vehicle_plans.specs.Grids.{slot_at, block_length}
use Rattle.vehicle_plans.specs.Means.{even, kept, between, reached, passed}

-- entries for each vehicle
abbrev pub each_vehicle : Grid → (ℕ → List Entry) → List Entry
each_vehicle g entries = flat_map entries (range_with_len 0 g.vehicles)

-- ---- before the vehicles, and at the first tick

-- any value of so many slots from one on
abbrev pub values_from : ℕ → ℕ → List Entry
values_from first count = flat_map (λ k. even (first + k) 1 ∷ []) (range_with_len 0 count)

-- the position at the first tick: a whole metre
abbrev pub first_place : Grid → ℕ → Entry
first_place g v = even (slot_at g Position v 0) 1000000

-- the speed at the first tick: about that of the first vehicle, which itself has one of each half metre a second
unfoldable pub first_speed : Grid → ℕ → Entry
first_speed g v = record { slot = slot_at g Speed v 0; wish = Around (slot_at g Speed 0 0) 5000 500 }

-- the position, the speed, and any lane
abbrev pub start_of : Grid → ℕ → List Entry
start_of g v = first_place g v ∷ first_speed g v ∷ even (slot_at g Lane v 0) 1 ∷ []

abbrev pub starts : Grid → List Entry
starts g = each_vehicle g (start_of g)

-- ---- between two ticks

-- the tick in the middle of two
abbrev pub half : ℕ → ℕ → ℕ
half a b = (a + b) / 2

abbrev pub betweens : Grid → Quantity → ℕ → ℕ → ℕ → List Entry
betweens g quantity a c b = each_vehicle g (λ v. between g quantity v a c b ∷ [])

-- a quantity between two ticks, by so many halvings: in the middle, then in the first half and in the second
unfoldable pub inner : Grid → Quantity → ℕ → ℕ → ℕ → List Entry
inner g quantity zero a b = []
inner g quantity (suc depth) a b =
    cond (nat_lt (a + 1) b) (betweens g quantity a (half a b) b ++ (inner g quantity depth a (half a b) ++ inner g quantity depth (half a b) b)) []

abbrev pub halves : Grid → Quantity → ℕ → ℕ → ℕ → ℕ → List Entry
halves g quantity depth a c b = inner g quantity depth a c ++ inner g quantity depth c b

-- ---- blocks of ticks

-- the speed at the end as at the start, and the position by it
abbrev pub end_of : Grid → ℕ → ℕ → ℕ → List Entry
end_of g a b v = kept g Speed v a b ∷ reached g v a b ∷ []

abbrev pub ends : Grid → ℕ → ℕ → List Entry
ends g a b = each_vehicle g (end_of g a b)

abbrev pub middles : Grid → ℕ → ℕ → ℕ → List Entry
middles g a c b = each_vehicle g (λ v. passed g v a c b ∷ [])

abbrev pub within : Grid → ℕ → ℕ → List Entry
within g a b = cond (nat_lt (a + 1) b) (middles g a (half a b) b ++ halves g Speed 5 a (half a b) b) []

abbrev pub speeds : Grid → ℕ → ℕ → List Entry
speeds g a b = ends g a b ++ within g a b

-- the lane at the end as at the start, and the lanes between
abbrev pub lane_ends : Grid → ℕ → ℕ → List Entry
lane_ends g a b = each_vehicle g (λ v. kept g Lane v a b ∷ [])

abbrev pub lanes : Grid → ℕ → ℕ → List Entry
lanes g a b = lane_ends g a b ++ inner g Lane 5 a b

abbrev pub block : Grid → ℕ → ℕ → List Entry
block g a b = cond (nat_lt a b) (speeds g a b ++ lanes g a b) []

-- the tick at which a block starts, and the one before it ends
abbrev pub border : Grid → ℕ → ℕ
border g number = min (number * block_length g) g.ticks

abbrev pub block_at : Grid → ℕ → List Entry
block_at g number = block g (border g number) (border g (number + 1))

abbrev pub blocks : Grid → List Entry
blocks g = flat_map (block_at g) (range_with_len 0 (g.ticks / block_length g + 1))

-- ---- all other positions

abbrev pub later_of : Grid → ℕ → ℕ → List Entry
later_of g v t = kept g Position v t (t + 1) ∷ []

abbrev pub path_of : Grid → ℕ → List Entry
path_of g v = flat_map (later_of g v) (range_with_len 0 g.ticks)

abbrev pub later : Grid → List Entry
later g = each_vehicle g (path_of g)

-- ---- whole plans

-- the first vehicle's place, and any value of all slots between choices and vehicles
abbrev pub spots : ℕ → Grid → List Entry
spots choices g = first_place g 0 ∷ values_from choices (g.first - choices)

abbrev pub vehicles_plan : Grid → List Entry
vehicles_plan g = starts g ++ (blocks g ++ later g)

-- the plan of vehicles that so many choices come before
abbrev pub plan_in : ℕ → Grid → List Entry
plan_in choices g = values_from 0 choices ++ (spots choices g ++ vehicles_plan g)

-- without vehicles the search decides the slots in their order
unfoldable pub plan_of : ℕ → Grid → List Entry
plan_of choices g = cond (nat_eq g.vehicles 0) [] (plan_in choices g)
