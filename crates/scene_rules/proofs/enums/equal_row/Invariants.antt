use Rattle.std.proofs.Common.{◌≡◌, map, take}
use Rattle.box_eval.specs.FlatRules.{flat_rule, Equal, Slot, Whole}
use Rattle.scene_rules.proofs.enums.equal_row.Given as goal

abbrev pub invariant-numbers : goal.invariant-numbers
invariant-numbers l = map flat_rule l.row.items ≡ map (λ n. Equal (Slot l.slot) (Whole n)) (take l.number-index l.numbers)
