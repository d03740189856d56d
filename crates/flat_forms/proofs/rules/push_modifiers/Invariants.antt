use Rattle.std.proofs.Common.{◌≡◌, ◌++◌, map, take, flat_map}
use Rattle.box_eval.specs.FlatRules.{flat_rule}
use Rattle.slot_ends.specs.scene_slots.SeenSlots.{scene_of, layout_of}
use Rattle.scene_rules.specs.composition.SeenParts.{seen_modifier}
use Rattle.scene_rules.specs.composition.Slots.{ticks_of}
use Rattle.slot_ends.specs.field_flatten.Rules.{modifier_rule}
use Rattle.flat_forms.proofs.rules.push_modifiers.Given as goal

abbrev pub invariant-modifiers : goal.invariant-modifiers
invariant-modifiers l = map flat_rule l.rules ≡ map flat_rule l.fn.rules ++ flat_map (λ m. map (modifier_rule (scene_of l.slots) (layout_of l.slots) m) (ticks_of (scene_of l.slots).setting)) (map seen_modifier (take l.modifier-index l.modifiers))
