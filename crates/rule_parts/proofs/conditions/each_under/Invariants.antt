use Rattle.std.proofs.Common.{◌≡◌, ◌++◌, map}
use Rattle.box_eval.specs.FlatRules.{flat_rule, under}
use Rattle.rule_parts.proofs.conditions.each_under.Given as goal

abbrev pub invariant-rules : goal.invariant-rules
invariant-rules l =
    map flat_rule l.row.items ++ map (under (map flat_rule l.conditions)) (map flat_rule l.rule-iterator.rest.items)
    ≡ map (under (map flat_rule l.conditions)) (map flat_rule l.fn.rules.items)
