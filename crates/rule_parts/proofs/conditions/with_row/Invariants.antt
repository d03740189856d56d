use Rattle.std.proofs.Common.{◌≡◌, ◌++◌, map}
use Rattle.box_eval.specs.FlatRules.{flat_rule}
use Rattle.rule_parts.proofs.conditions.with_row.Given as goal

abbrev pub invariant-rules : goal.invariant-rules
invariant-rules l =
    map flat_rule l.row.items ++ map flat_rule l.rule-iterator.rest.items ≡ map flat_rule l.fn.row.items ++ map flat_rule l.fn.more.items
