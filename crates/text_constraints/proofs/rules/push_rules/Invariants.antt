use Rattle.std.proofs.Common.{◌≡◌, ◌++◌, drop, map}
use Rattle.program_texts.specs.composition.SeenParts.{seen_occurrence}
use Rattle.dsl_tree.specs.Views.{rule_tree}
use Rattle.text_constraints.specs.Kept.{rule_kept, seen_owner}
use Rattle.text_constraints.specs.Sites.{seen_site}
use Rattle.text_constraints.proofs.rules.push_rules.Given as goal

abbrev pub invariant-loop-rule : goal.invariant-loop-rule
invariant-loop-rule l =
    map seen_occurrence l.into.items ++ map (rule_kept l.types.table (seen_site l.text) (seen_owner l.owner)) (map rule_tree (drop l.rule-index l.rules))
    ≡ map seen_occurrence l.fn.into.items ++ map (rule_kept l.types.table (seen_site l.text) (seen_owner l.owner)) (map rule_tree l.rules)
