use Rattle.std.proofs.Common.{◌≡◌, map, take}
use Rattle.box_eval.specs.FlatRules.{flat_rule, AtMost, Slot}
use Rattle.scene_rules.proofs.spans.each_at_most.Given as goal

abbrev pub invariant-ticks : goal.invariant-ticks
invariant-ticks l = map flat_rule l.row.items ≡ map (λ t. AtMost t (Slot l.tick)) (map Slot (take l.other-index l.ticks))
