use Rattle.std.proofs.Common.{◌∙◌, ap, map, arith}
use Rattle.box_eval.specs.FlatRules.{flat_term, joined}
use Rattle.flat_terms.specs.Joins.{term_join, no_terms}
use Rattle.flat_terms.proofs.Rounds.{after_round, shorter}
use Rattle.flat_terms.proofs.rows.joined_terms.Goals as goal

pub rounds-smaller : goal.rounds-smaller
rounds-smaller c = shorter (term_join c.args.by) flat_term c.rounds.row.items c.in_ok-row.row.items c.in_ok-row.ensures (grind (arith, c.rounds-test.true, c.len.ensures))

pub rounds-preserved : goal.rounds-preserved
rounds-preserved c =
    ap (joined (term_join c.args.by) (no_terms c.args.by)) c.in_ok-row.ensures
    ∙ after_round (term_join c.args.by) (no_terms c.args.by) (map flat_term c.rounds.row.items)
    ∙ c.rounds.invariant
