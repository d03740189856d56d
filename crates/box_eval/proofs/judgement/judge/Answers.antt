use Rattle.std.proofs.Common.{sym, ◌∙◌}
use Rattle.box_eval.proofs.Points.{true_everywhere, false_everywhere, same_within, one_point_settles}
use Rattle.box_eval.proofs.judgement.judge.Goals as goal

pub returns-clause-true_at_points : goal.returns-clause-true_at_points
returns-clause-true_at_points g c = λ is point p.
    true_everywhere (g.E.Ends.ends c.args.ends.now) c.args.rule.now (sym c.verdict_on.ensures ∙ is) point p

pub returns-clause-false_at_points : goal.returns-clause-false_at_points
returns-clause-false_at_points g c = λ is point p.
    false_everywhere (g.E.Ends.ends c.args.ends.now) c.args.rule.now (sym c.verdict_on.ensures ∙ is) point p

pub returns-clause-same_within : goal.returns-clause-same_within
returns-clause-same_within g c = λ closed smaller box inside.
    same_within (g.E.Ends.ends c.args.ends.now) c.args.rule.now c.verdict_on.result (sym c.verdict_on.ensures) closed smaller box inside

pub returns-clause-decided : goal.returns-clause-decided
returns-clause-decided g c = λ one is.
    one_point_settles (g.E.Ends.ends c.args.ends.now) c.args.rule.now one (sym c.verdict_on.ensures ∙ is)
