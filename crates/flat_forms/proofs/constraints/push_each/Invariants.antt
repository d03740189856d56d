use Rattle.std.proofs.Common.{◌≡◌, ◌++◌, map, drop}
use Rattle.box_eval.specs.FlatRules.{flat_rule}
use Rattle.slot_ends.specs.scene_slots.SeenSlots.{scene_of, layout_of}
use Rattle.scene_rules.specs.composition.Items.{occurrence_items}
use Rattle.scene_rules.specs.composition.SeenParts.{seen_occurrence}
use Rattle.slot_ends.specs.field_flatten.Rules.{item_rule}
use Rattle.flat_forms.proofs.constraints.push_each.Given as goal

abbrev pub invariant-constraints : goal.invariant-constraints
invariant-constraints l =
    map flat_rule l.rules ++ map (item_rule (scene_of l.slots) (layout_of l.slots)) (occurrence_items (scene_of l.slots) l.number (map seen_occurrence (drop l.constraint-index l.constraints)))
    ≡ map flat_rule l.fn.rules ++ map (item_rule (scene_of l.slots) (layout_of l.slots)) (occurrence_items (scene_of l.slots) 0 (map seen_occurrence l.constraints))
