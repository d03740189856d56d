-- The names of slots, sort by sort.
use Rattle.std.specs.Prelude.{ℕ, List, [], ◌∷◌, map, flat_map}
use Rattle.osc_base.specs.declared.path.Path.{Path}
use Rattle.osc_base.specs.declared.listing.SlotName.{SlotName}
use Rattle.flat_shapes.specs.composition.declared.spot.ChoiceSpot.{ChoiceSpot}
use Rattle.flat_shapes.specs.composition.declared.spot.ValueSpot.{ValueSpot}
use Rattle.flat_shapes.specs.composition.declared.spot.PhaseSpot.{PhaseSpot}
use Rattle.flat_shapes.specs.composition.Slots.{sample_names}

-- those of choices
abbrev pub choice_names : List ChoiceSpot → List SlotName
choice_names cs = map (λ (c : ChoiceSpot). SlotName.Choice c.path) cs

-- the start and the end of a phase
abbrev pub end_names : Path → List SlotName
end_names path = SlotName.Start path ∷ SlotName.End path ∷ []

-- those of phases
abbrev pub phase_names : List PhaseSpot → List SlotName
phase_names ps = flat_map (λ (p : PhaseSpot). end_names p.path) ps

-- those of values
abbrev pub value_names : List ValueSpot → List SlotName
value_names vs = map (λ (v : ValueSpot). SlotName.Value v.path) vs

-- those of a vehicle at these ticks
abbrev pub block : List ℕ → Path → List SlotName
block ticks w = flat_map (sample_names w) ticks

-- those of vehicles
abbrev pub track_names : List ℕ → List Path → List SlotName
track_names ticks ws = flat_map (block ticks) ws
