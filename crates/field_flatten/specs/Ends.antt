-- The slots of a scene's flat form: their numbers and their ends.
use Rattle.std.specs.Prelude.{ℕ, ◌-◌, List, length, map, unwrap_or, position, find, pos}
use Rattle.std.specs.Option.{option_map_or}
use Rattle.osc_base.specs.declared.listing.SlotName.{SlotName}
use Rattle.osc_base.specs.Paths.{same_path}
use Rattle.osc_base.specs.SlotNames.{same_slot}
use Rattle.composition.specs.declared.spot.ValueRange.{ValueRange}
use Rattle.composition.specs.declared.setting.Setting.{Setting}
use Rattle.composition.specs.Scenes.{Scene, choices, values}
use Rattle.composition.specs.type_heads.Bounds.{least_of, greatest_of}
use Rattle.composition.specs.Slots.{slot_names}
use Rattle.composition.specs.Claims.{road_end, top_speed}
use Rattle.box_eval.specs.declared.bounds.Pair.{Pair}
use Rattle.box_eval.specs.Box.{pair}

-- the number of the slot with that name
abbrev pub slot_in : List SlotName → SlotName → ℕ
slot_in names name = unwrap_or (position (same_slot name) names) (length names)

-- the ends of a value's slot: an enum's are its least and its greatest number, a text is its number among the texts
abbrev pub range_ends : List (List ℕ) → ValueRange → Pair
range_ends texts (ValueRange.Between low high) = pair low high
range_ends texts (ValueRange.Among numbers) = pair (least_of numbers) (greatest_of numbers)
range_ends texts ValueRange.Chars = pair (pos 0) (pos (length texts - 1))

-- the ends of a slot that isn't there
abbrev pub no_ends : Pair
no_ends = pair (pos 0) (pos 0)

-- the ends of a tick
abbrev pub tick_ends : Setting → Pair
tick_ends setting = pair (pos 0) (pos setting.ticks)

-- the ends of the slot with that name
abbrev pub ends_of : Scene → SlotName → Pair
ends_of scene (SlotName.Choice path) = option_map_or (λ c. pair (pos 0) (pos (c.members - 1))) (find (λ c. same_path c.path path) (choices scene)) no_ends
ends_of scene (SlotName.Start path) = tick_ends scene.setting
ends_of scene (SlotName.End path) = tick_ends scene.setting
ends_of scene (SlotName.Value path) = option_map_or (λ v. range_ends scene.texts v.range) (find (λ v. same_path v.path path) (values scene)) no_ends
ends_of scene (SlotName.Lane path tick) = pair (pos 1) (pos scene.setting.lanes)
ends_of scene (SlotName.Position path tick) = pair (pos 0) (road_end scene.setting)
ends_of scene (SlotName.Speed path tick) = pair (pos 0) top_speed

-- the ends of all slots, in order
abbrev pub bounds : Scene → List Pair
bounds scene = map (ends_of scene) (slot_names scene)
