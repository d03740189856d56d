-- The run of a point, and the point of a run. A point is read by the names of its slots.
use Rattle.std.specs.Prelude.{ℕ, ◌+◌, Bool, List, [], Option, map, filter, slice_get, unwrap_or, option_map, option_and_then, unsigned_abs, cond, ℤ, pos}
use Rattle.std.specs.List.{list_all, range_with_len}
use Rattle.osc_base.specs.declared.path.Path.{Path}
use Rattle.osc_base.specs.declared.sample.Sample.{Sample}
use Rattle.osc_base.specs.declared.listing.SlotName.{SlotName}
use Rattle.osc_base.specs.Comparisons.{same_number}
use Rattle.box_eval.specs.Box.{value_of}
use Rattle.composition.specs.declared.guard.Guard.{Guard}
use Rattle.composition.specs.declared.spot.ValueRange.{ValueRange}
use Rattle.composition.specs.declared.run.Held.{Held}
use Rattle.composition.specs.declared.run.Choice.{Choice}
use Rattle.composition.specs.declared.run.Span.{Span}
use Rattle.composition.specs.declared.run.Run.{Run}
use Rattle.composition.specs.RunParts.{choice_in, held_in, span_in, sample_in}
use Rattle.composition.specs.Scenes.{Scene, choices, values, phases, vehicles, root_do, has_root_do, guards}
use Rattle.composition.specs.Numbers.{number_of}
use Rattle.composition.specs.Slots.{slot_names}
use Rattle.field_flatten.specs.Ends.{slot_in, ends_of}

-- what a point gives the slot of each name
abbrev pub slot_value : Scene → List ℤ → SlotName → ℤ
slot_value scene point name = value_of point (slot_in (slot_names scene) name)

-- ---- the run of a point

-- a condition holds by the numbers of the slots
abbrev pub is_held : (SlotName → ℤ) → Guard → Bool
is_held at (Guard.Choice phase member) = same_number (at (SlotName.Choice phase)) (pos member)
is_held at (Guard.Value path value) = same_number (at (SlotName.Value path)) value

-- what stands at a path is there by the numbers of the slots
abbrev pub stands : Scene → (SlotName → ℤ) → Path → Bool
stands scene at path = list_all (is_held at) (guards scene path)

-- the chosen member of a `one_of`
abbrev pub choice_of : (SlotName → ℤ) → Path → Choice
choice_of at path = record { path = path; member = unsigned_abs (at (SlotName.Choice path)) }

-- the ticks of a phase
abbrev pub span_of : (SlotName → ℤ) → Path → Span
span_of at path = record { path = path; start = unsigned_abs (at (SlotName.Start path)); end = unsigned_abs (at (SlotName.End path)) }

-- the number of a slot as what the field holds: the text of that number, for a field of type `string`
abbrev pub held_of : List (List ℕ) → ValueRange → ℤ → Held
held_of texts (ValueRange.Between low high) n = Held.Number n
held_of texts (ValueRange.Among numbers) n = Held.Number n
held_of texts ValueRange.Chars n = Held.Chars (unwrap_or (slice_get texts (unsigned_abs n)) [])

-- the sample of a vehicle at a tick
abbrev pub sample_named : (SlotName → ℤ) → Path → ℕ → Sample
sample_named at vehicle tick = record { lane = at (SlotName.Lane vehicle tick); position = at (SlotName.Position vehicle tick); speed = at (SlotName.Speed vehicle tick) }

-- the tick at which the run ends
abbrev pub end_named : Scene → (SlotName → ℤ) → ℕ
end_named scene at = cond (has_root_do scene) (unsigned_abs (at (SlotName.End root_do))) 0

-- everything that is there by the numbers of the slots, and what they say of it
abbrev pub run_named : Scene → (SlotName → ℤ) → Run
run_named scene at = record {
  choices = map (λ c. choice_of at c.path) (filter (λ c. stands scene at c.path) (choices scene));
  end = end_named scene at;
  phases = map (λ p. span_of at p.path) (filter (λ p. stands scene at p.path) (phases scene));
  tick = scene.setting.tick;
  traces = map (λ v. record { path = v; samples = map (sample_named at v) (range_with_len 0 (end_named scene at + 1)) }) (filter (stands scene at) (vehicles scene));
  values =
      map (λ v. record { path = v.path; held = held_of scene.texts v.range (at (SlotName.Value v.path)) })
      (filter (λ v. stands scene at v.path) (values scene));
}

-- the run of a point
abbrev pub run_of : Scene → List ℤ → Run
run_of scene point = run_named scene (slot_value scene point)

-- ---- the point of a run

-- what the entries of a run say of the slot of a name
abbrev pub entry_of : Scene → Run → SlotName → Option ℤ
entry_of scene run (SlotName.Choice path) = option_map pos (choice_in run path)
entry_of scene run (SlotName.Start path) = option_map (λ s. pos s.start) (span_in run path)
entry_of scene run (SlotName.End path) = option_map (λ s. pos s.end) (span_in run path)
entry_of scene run (SlotName.Value path) = option_and_then (number_of scene.texts) (held_in run path)
entry_of scene run (SlotName.Lane path tick) = option_map (λ s. s.lane) (sample_in run path tick)
entry_of scene run (SlotName.Position path tick) = option_map (λ s. s.position) (sample_in run path tick)
entry_of scene run (SlotName.Speed path tick) = option_map (λ s. s.speed) (sample_in run path tick)

-- a slot of which the run says nothing takes its low end
abbrev pub filled : Scene → Run → SlotName → ℤ
filled scene run name = unwrap_or (entry_of scene run name) (ends_of scene name).low

-- the point of a run
abbrev pub point_of : Scene → Run → List ℤ
point_of scene run = map (filled scene run) (slot_names scene)
