-- The slots of a vehicle.
use Rattle.std.specs.Prelude.{◌≡◌, ℕ, ◌+◌, ◌*◌, ◌≤◌, Option, Some, None}
use Rattle.osc_base.specs.declared.path.Path.{Path}
use Rattle.osc_base.specs.declared.sample.SampleSlots.{SampleSlots}
use Rattle.flat_shapes.specs.composition.Scenes.{Scene}
use Rattle.flat_shapes.specs.field_flatten.Rules.{layout, sample_slots}
use Rattle.scene_slots.specs.declared.track.Track.{Track}

-- one of the slots of a vehicle, counted from its first; one that isn't there has the number after those of all slots
abbrev pub track_slot : Track → ℕ → ℕ
track_slot (Track.Found first) own = first + own
track_slot (Track.Missing past) own = past

-- the slots of its sample at a tick
abbrev pub track_slots : Track → ℕ → SampleSlots
track_slots track tick = record { lane = track_slot track (tick * 3 + 0); position = track_slot track (tick * 3 + 1); speed = track_slot track (tick * 3 + 2) }

-- these are the slots of a vehicle at each tick
abbrev pub IsTrack : Scene → Path → Track → Type 0
IsTrack scene vehicle track = (tick : ℕ) → tick ≤ scene.setting.ticks → track_slots track tick ≡ sample_slots (layout scene) vehicle tick

-- the slots of a vehicle by its place: the first of so many, each of which has so many slots
abbrev pub track_by : ℕ → ℕ → ℕ → Option ℕ → Track
track_by past first each None = Track.Missing past
track_by past first each (Some place) = Track.Found (first + place * each)
