use Rattle.std.proofs.Common.{◌≡◌, map, take}
use Rattle.box_eval.specs.FlatRules.{Slot}
use Rattle.scene_rules.specs.Sides.{side_term}
use Rattle.rule_parts.specs.scene_slots.SeenSlots.{layout_of}
use Rattle.scene_rules.proofs.spans.slots_of.Given as goal

abbrev pub invariant-phases : goal.invariant-phases
invariant-phases l = map Slot l.ticks.items ≡ map (side_term (layout_of l.slots) l.side) (take l.phase-index l.phases)
