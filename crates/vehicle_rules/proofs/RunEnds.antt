-- The end of the run, by its slot.
use Rattle.std.proofs.Common.{◌≡◌, ℕ, Option, Some, None}
use Rattle.rule_parts.specs.composition.Scenes.{Scene}
use Rattle.rule_parts.specs.composition.Slots.{slot_names}
use Rattle.rule_parts.specs.field_flatten.Ends.{slot_in}
use Rattle.rule_parts.specs.field_flatten.Rules.{end_term}
use Rattle.rule_parts.specs.scene_slots.Places.{end_slot}
use Rattle.rule_parts.proofs.of_scene_slots.QuerySteps.{end_term_is}
use Rattle.vehicle_rules.specs.Limits.{end_by}

pub end_is : (scene : Scene) (o : Option ℕ) → o ≡ end_slot scene → end_by o ≡ end_term scene (slot_in (slot_names scene))
end_is scene None is = end_term_is scene None is
end_is scene (Some slot) is = end_term_is scene (Some slot) is
