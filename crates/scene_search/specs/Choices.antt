-- How the search for a run of a scene chooses its cuts.
use Rattle.std.specs.Prelude.{ℕ, ◌+◌, ◌*◌, List, length}
use Rattle.box_eval.specs.declared.bounds.Pair.{Pair}
use Rattle.box_eval.specs.declared.cut.Cut.{Cut}
use Rattle.flat_forms.specs.composition.Scenes.{Scene, choices, phases, values, vehicles}
use Rattle.seeded_search.specs.search_plans.declared.wish.Entry.{Entry}
use Rattle.seeded_search.specs.Draws.{chosen_by}
use Rattle.vehicle_plans.specs.declared.grid.Grid.{Grid}
use Rattle.vehicle_plans.specs.Grids.{numbered}
use Rattle.vehicle_plans.specs.VehiclePlan as Vehicles

-- the slots of a scene's vehicles come after those of choices, phases and values. A phase has two, its start and its end
abbrev pub grid_of : Scene → Grid
grid_of scene = record {
  first = numbered (length (choices scene) + length (phases scene) * 2 + length (values scene));
  vehicles = numbered (length (vehicles scene));
  ticks = scene.setting.ticks;
  tick = scene.setting.tick;
}

-- the plan of a scene
abbrev pub plan_of : Scene → List Entry
plan_of scene = Vehicles.plan_of (numbered (length (choices scene))) (grid_of scene)

-- by the plan of the scene, and the numbers of the seed
abbrev pub choice_of : Scene → ℕ → ℕ → List Pair → Cut
choice_of scene seed = chosen_by (plan_of scene) seed
