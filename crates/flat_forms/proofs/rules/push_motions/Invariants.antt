use Rattle.std.proofs.Common.{◌≡◌, ◌++◌, map, take, flat_map}
use Rattle.box_eval.specs.FlatRules.{flat_rule}
use Rattle.slot_ends.specs.scene_slots.SeenSlots.{scene_of, layout_of}
use Rattle.scene_rules.specs.composition.Slots.{ticks_of}
use Rattle.slot_ends.specs.field_flatten.Rules.{motion_rule}
use Rattle.flat_forms.proofs.rules.push_motions.Given as goal

abbrev pub invariant-vehicles : goal.invariant-vehicles
invariant-vehicles l = map flat_rule l.rules ≡ map flat_rule l.fn.rules ++ flat_map (λ v. map (motion_rule (scene_of l.slots) (layout_of l.slots) v) (ticks_of (scene_of l.slots).setting)) (take l.vehicle-index l.vehicles)
