use Rattle.std.proofs.Common.{◌≡◌, ◌++◌, map}
use Rattle.std.specs.Prelude.{option_to_list}
use Rattle.box_eval.specs.FlatRules.{flat_rule, paired}
use Rattle.flat_terms.specs.Joins.{rule_join}
use Rattle.flat_terms.proofs.rows.paired_rules.Given as goal

abbrev pub invariant-rules : goal.invariant-rules
invariant-rules l =
    map flat_rule l.pairs.items ++ paired (rule_join l.by) (map flat_rule (option_to_list l.waiting ++ l.rule-iterator.rest.items))
    ≡ paired (rule_join l.by) (map flat_rule l.fn.row.items)
