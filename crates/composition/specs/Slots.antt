-- The names of a scene's slots, in order.
use Rattle.std.specs.Prelude.{ℕ, ◌+◌, List, [], ◌∷◌, ◌++◌, map, flat_map}
use Rattle.std.specs.List.{range_with_len}
use Rattle.expr_nodes.specs.osc_base.declared.path.Path.{Path}
use Rattle.expr_nodes.specs.osc_base.declared.listing.SlotName.{SlotName}
use Rattle.composition.specs.declared.setting.Setting.{Setting}
use Rattle.composition.specs.Scenes.{Scene, choices, values, phases, vehicles}

-- the ticks of a setting
abbrev pub ticks_of : Setting → List ℕ
ticks_of setting = range_with_len 0 (setting.ticks + 1)

-- the slots of a vehicle at a tick
abbrev pub sample_names : Path → ℕ → List SlotName
sample_names path tick = SlotName.Lane path tick ∷ SlotName.Position path tick ∷ SlotName.Speed path tick ∷ []

-- each choice; the start and the end of each phase; each value; and each vehicle's lane, position and speed at each tick
abbrev pub slot_names : Scene → List SlotName
slot_names scene =
    map (λ c. SlotName.Choice c.path) (choices scene)
    ++ flat_map (λ p. SlotName.Start p.path ∷ SlotName.End p.path ∷ []) (phases scene)
    ++ map (λ v. SlotName.Value v.path) (values scene)
    ++ flat_map (λ v. flat_map (sample_names v) (ticks_of scene.setting)) (vehicles scene)
