-- The entries of a run, each if what it is of is there by the numbers of the slots.
use Rattle.std.specs.Prelude.{ℕ, ◌+◌, ◌&&◌, Bool, cond, List, [], ◌∷◌, map, ℤ, pos, int_le}
use Rattle.std.specs.List.{range_with_len}
use Rattle.osc_base.specs.declared.path.Path.{Path}
use Rattle.osc_base.specs.declared.sample.Sample.{Sample}
use Rattle.osc_base.specs.declared.sample.SampleSlots.{SampleSlots}
use Rattle.osc_base.specs.declared.listing.SlotName.{SlotName}
use Rattle.box_eval.specs.Box.{value_of}
use Rattle.scene_slots.specs.composition.declared.spot.ChoiceSpot.{ChoiceSpot}
use Rattle.scene_slots.specs.composition.declared.spot.ValueSpot.{ValueSpot}
use Rattle.scene_slots.specs.composition.declared.spot.PhaseSpot.{PhaseSpot}
use Rattle.scene_slots.specs.composition.declared.run.Choice.{Choice}
use Rattle.scene_slots.specs.composition.declared.run.Span.{Span}
use Rattle.scene_slots.specs.composition.declared.run.Value.{Value}
use Rattle.scene_slots.specs.composition.declared.run.Trace.{Trace}
use Rattle.scene_slots.specs.composition.Scenes.{Scene}
use Rattle.scene_slots.specs.field_flatten.Points.{stands, choice_of, span_of, held_of, sample_named}

-- the member that a `one_of` chose is one of as many as it has
abbrev pub is_chosen : (SlotName → ℤ) → ChoiceSpot → Bool
is_chosen at c = int_le (pos 0) (at (SlotName.Choice c.path)) && int_le (at (SlotName.Choice c.path)) (pos c.members)

-- the chosen member of a `one_of`
abbrev pub choice_entry : Scene → (SlotName → ℤ) → ChoiceSpot → List Choice
choice_entry scene at c = cond (stands scene at c.path) (choice_of at c.path ∷ []) []

-- the ticks of a phase
abbrev pub span_entry : Scene → (SlotName → ℤ) → PhaseSpot → List Span
span_entry scene at p = cond (stands scene at p.path) (span_of at p.path ∷ []) []

-- what a field holds
abbrev pub value_named : Scene → (SlotName → ℤ) → ValueSpot → Value
value_named scene at v = record { path = v.path; held = held_of scene.texts v.range (at (SlotName.Value v.path)) }

abbrev pub value_entry : Scene → (SlotName → ℤ) → ValueSpot → List Value
value_entry scene at v = cond (stands scene at v.path) (value_named scene at v ∷ []) []

-- what is in the slots of a sample
abbrev pub sample_by : List ℤ → SampleSlots → Sample
sample_by point slots = record { lane = value_of point slots.lane; position = value_of point slots.position; speed = value_of point slots.speed }

-- the trace of a vehicle in a run that ends at a tick
abbrev pub trace_named : (SlotName → ℤ) → ℕ → Path → Trace
trace_named at end v = record { path = v; samples = map (sample_named at v) (range_with_len 0 (end + 1)) }

abbrev pub trace_entry : Scene → (SlotName → ℤ) → ℕ → Path → List Trace
trace_entry scene at end v = cond (stands scene at v) (trace_named at end v ∷ []) []
