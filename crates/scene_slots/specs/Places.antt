-- The places of what stands at a path.
use Rattle.std.specs.Prelude.{ℕ, ◌+◌, ◌*◌, Option, option_map}
use Rattle.osc_base.specs.declared.path.Path.{Path}
use Rattle.osc_base.specs.Paths.{same_path}
use Rattle.path_index.specs.Places.{first_place}
use Rattle.flat_shapes.specs.composition.declared.spot.ChoiceSpot.{ChoiceSpot}
use Rattle.flat_shapes.specs.composition.declared.spot.ValueSpot.{ValueSpot}
use Rattle.flat_shapes.specs.composition.declared.spot.PhaseSpot.{PhaseSpot}
use Rattle.flat_shapes.specs.composition.Scenes.{Scene, choices, values, phases, vehicles, root_do}
use Rattle.scene_slots.specs.Numbers.{first_phase}

-- the place of a `one_of` among the choices
abbrev pub choice_place : Scene → Path → Option ℕ
choice_place scene path = first_place (λ (c : ChoiceSpot). same_path c.path path) 0 (choices scene)

-- the place of a phase
abbrev pub phase_place : Scene → Path → Option ℕ
phase_place scene path = first_place (λ (p : PhaseSpot). same_path p.path path) 0 (phases scene)

-- the place of a value
abbrev pub value_place : Scene → Path → Option ℕ
value_place scene path = first_place (λ (v : ValueSpot). same_path v.path path) 0 (values scene)

-- the place of a vehicle
abbrev pub vehicle_place : Scene → Path → Option ℕ
vehicle_place scene path = first_place (λ (v : Path). same_path v path) 0 (vehicles scene)

-- the slot of the end of the named scenario's `do`, if there is one
abbrev pub end_slot : Scene → Option ℕ
end_slot scene = option_map (λ i. first_phase scene + i * 2 + 1) (phase_place scene root_do)
