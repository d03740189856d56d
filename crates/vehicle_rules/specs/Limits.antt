-- The limits of vehicles and the end of the run, by their slots.
use Rattle.std.specs.Prelude.{ℕ, List, [], ◌∷◌, Option, Some, None, pos}
use Rattle.osc_base.specs.declared.path.Path.{Path}
use Rattle.osc_base.specs.declared.sample.SampleSlots.{SampleSlots}
use Rattle.osc_base.specs.declared.listing.SlotName.{SlotName}
use Rattle.box_eval.specs.FlatRules.{FlatTerm, FlatRule, Whole, Slot, Sum, Less, AtMost, Equal, times}
use Rattle.rule_parts.specs.composition.Scenes.{max_speed, max_acceleration}
use Rattle.rule_parts.specs.field_flatten.Shapes.{Layout}
use Rattle.rule_parts.specs.field_flatten.Rules.{one_more}
use Rattle.vehicle_rules.specs.declared.motion.Limits.{Limits}

-- what is in a slot, or 0 without one
abbrev pub end_by : Option ℕ → FlatTerm
end_by None = Whole (pos 0)
end_by (Some slot) = Slot slot

-- the slots of the limits that stand at these paths
abbrev pub limits_by : Layout → Path → Path → Limits
limits_by at speed acceleration = record { speed = at.slot (SlotName.Value speed); acceleration = at.slot (SlotName.Value acceleration) }

-- the slots of a vehicle's limits
abbrev pub limits_of : Layout → Path → Limits
limits_of at vehicle = limits_by at (max_speed vehicle) (max_acceleration vehicle)

-- the step of a vehicle from one sample to the next, by the length of a tick and the slot of its greatest acceleration
abbrev pub steps_by : ℕ → SampleSlots → SampleSlots → ℕ → List FlatRule
steps_by tick now next acceleration =
    Equal (Slot next.position) (Sum (Slot now.position) (times tick (Slot now.speed)))
    ∷ AtMost (Slot next.lane) (one_more (Slot now.lane))
    ∷ AtMost (Slot now.lane) (one_more (Slot next.lane))
    ∷ AtMost (times 1000 (Less (Slot next.speed) (Slot now.speed))) (times tick (Slot acceleration))
    ∷ AtMost (times 1000 (Less (Slot now.speed) (Slot next.speed))) (times tick (Slot acceleration))
    ∷ []
