use Rattle.std.proofs.Common.{◌≡◌, ◌++◌, map, take, flat_map}
use Rattle.box_eval.specs.FlatRules.{flat_rule}
use Rattle.slot_ends.specs.scene_slots.SeenSlots.{scene_of, layout_of}
use Rattle.scene_rules.specs.composition.declared.spot.ValueSpot.{ValueSpot}
use Rattle.scene_rules.specs.composition.Items.{typed_item}
use Rattle.slot_ends.specs.field_flatten.Rules.{item_rule}
use Rattle.flat_forms.proofs.rules.push_enums.Given as goal

abbrev pub invariant-values : goal.invariant-values
invariant-values l = map flat_rule l.rules ≡ map flat_rule l.fn.rules ++ flat_map (λ (v : ValueSpot). map (item_rule (scene_of l.slots) (layout_of l.slots)) (typed_item v.path v.range)) (take l.value-index l.values)
