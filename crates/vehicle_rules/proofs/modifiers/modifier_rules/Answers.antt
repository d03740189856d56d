use Rattle.rule_parts.specs.composition.SeenParts.{seen_modifier}
use Rattle.rule_parts.specs.field_flatten.Rules.{modifier_rule}
use Rattle.rule_parts.specs.scene_slots.SeenSlots.{scene_of, layout_of}
use Rattle.vehicle_rules.proofs.Rooms.{modifier_room}
use Rattle.vehicle_rules.proofs.TickRows.{one_more_tick}
use Rattle.vehicle_rules.proofs.modifiers.modifier_rules.Goals as goal

pub modifier_rule-requires-clause-room : goal.modifier_rule-requires-clause-room
modifier_rule-requires-clause-room c =
    modifier_room (scene_of c.args.slots.now) (seen_modifier c.args.modifier.now) c.requires.sound c.requires.narrow c.requires.low c.requires.high

pub ticks-preserved : goal.ticks-preserved
ticks-preserved c =
    one_more_tick _ _ _ (modifier_rule (scene_of c.args.slots.now) (layout_of c.args.slots.now) (seen_modifier c.args.modifier.now)) c.ticks.tick _ c.ticks.invariant
    c.in_ok-push.ensures.ok c.in_ok-modifier_rule.ensures
