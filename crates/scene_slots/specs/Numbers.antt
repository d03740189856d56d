-- The numbers of a scene's slots, by the places of what they belong to in the lists of the scene.
use Rattle.std.specs.Prelude.{ℕ, ◌+◌, ◌*◌, length, Option, Some, None}
use Rattle.flat_shapes.specs.composition.Scenes.{Scene, choices, values, phases}
use Rattle.flat_shapes.specs.composition.Slots.{slot_names}

-- how many slots a vehicle has: three at each tick
abbrev pub track_length : Scene → ℕ
track_length scene = (scene.setting.ticks + 1) * 3

-- the first slot of a phase, of a value, and of a vehicle
abbrev pub first_phase : Scene → ℕ
first_phase scene = length (choices scene)

abbrev pub first_value : Scene → ℕ
first_value scene = first_phase scene + length (phases scene) * 2

abbrev pub first_sample : Scene → ℕ
first_sample scene = first_value scene + length (values scene)

-- the number after those of all slots: that of a slot that isn't there
abbrev pub past : Scene → ℕ
past scene = length (slot_names scene)

-- the number of a slot, by the place of what it belongs to: the first of so many, each of which has so many slots
abbrev pub slot_after : ℕ → ℕ → ℕ → ℕ → Option ℕ → ℕ
slot_after none first each own None = none
slot_after none first each own (Some place) = first + place * each + own
