use Rattle.std.proofs.Common.{◌≡◌, ◌++◌, map, take}
use Rattle.box_eval.specs.FlatRules.{flat_rule}
use Rattle.slot_ends.specs.scene_slots.SeenSlots.{scene_of, layout_of}
use Rattle.slot_ends.specs.field_flatten.Rules.{arranged_rule}
use Rattle.flat_forms.proofs.rules.push_phases.Given as goal

abbrev pub invariant-phases : goal.invariant-phases
invariant-phases l = map flat_rule l.rules ≡ map flat_rule l.fn.rules ++ map (arranged_rule (scene_of l.slots) (layout_of l.slots)) (take l.phase-index l.phases)
