use Rattle.std.proofs.Common.{◌∙◌, ap, map, arith}
use Rattle.box_eval.specs.FlatRules.{flat_rule, joined}
use Rattle.flat_terms.specs.Joins.{rule_join, no_rules}
use Rattle.flat_terms.proofs.Rounds.{after_round, shorter}
use Rattle.flat_terms.proofs.rows.joined_rules.Goals as goal

pub rounds-smaller : goal.rounds-smaller
rounds-smaller c = shorter (rule_join c.args.by) flat_rule c.rounds.row.items c.in_ok-row.row.items c.in_ok-row.ensures (grind (arith, c.rounds-test.true, c.len.ensures))

pub rounds-preserved : goal.rounds-preserved
rounds-preserved c =
    ap (joined (rule_join c.args.by) (no_rules c.args.by)) c.in_ok-row.ensures
    ∙ after_round (rule_join c.args.by) (no_rules c.args.by) (map flat_rule c.rounds.row.items)
    ∙ c.rounds.invariant
