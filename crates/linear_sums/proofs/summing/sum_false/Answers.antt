use Rattle.std.proofs.Common.{◌∙◌, sym}
use Rattle.linear_sums.proofs.Empty.{sum_empty}
use Rattle.linear_sums.proofs.Verdicts.{weighed_linear, weighed_small, weighed_verdict, unweighed_verdict}
use Rattle.linear_sums.proofs.summing.sum_false.Goals as goal

pub false_on-requires-clause-linear : goal.false_on-requires-clause-linear
false_on-requires-clause-linear g c = weighed_linear c.args.flat.now c.args.picks.now _ (sym c.weight_of_picks.ensures ∙ c.in-Some.is)

pub false_on-requires-clause-weight : goal.false_on-requires-clause-weight
false_on-requires-clause-weight g c = weighed_small c.args.flat.now c.args.picks.now _ (sym c.weight_of_picks.ensures ∙ c.in-Some.is)

pub returns-in-Some-clause-verdict : goal.returns-in-Some-clause-verdict
returns-in-Some-clause-verdict g c = weighed_verdict c.args.flat.now c.args.picks.now (g.E.Ends.ends c.args.ends.now) _ _ (sym c.weight_of_picks.ensures ∙ c.in-Some.is) c.false_on.ensures.verdict

pub returns-in-Some-clause-empty : goal.returns-in-Some-clause-empty
returns-in-Some-clause-empty g c = λ is. sum_empty c.args.flat.now c.args.picks.now (g.E.Ends.ends c.args.ends.now)
    (sym (weighed_verdict c.args.flat.now c.args.picks.now (g.E.Ends.ends c.args.ends.now) _ _ (sym c.weight_of_picks.ensures ∙ c.in-Some.is) c.false_on.ensures.verdict) ∙ is)

pub returns-in-None-clause-verdict : goal.returns-in-None-clause-verdict
returns-in-None-clause-verdict g c = unweighed_verdict c.args.flat.now c.args.picks.now (g.E.Ends.ends c.args.ends.now) (sym c.weight_of_picks.ensures ∙ c.in-None.is)
