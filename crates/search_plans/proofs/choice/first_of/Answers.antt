use Rattle.search_plans.proofs.Choices.{in_plan, past_plan}
use Rattle.search_plans.proofs.choice.first_of.Goals as goal

pub returns-in-Some : goal.returns-in-Some
returns-in-Some g c = in_plan c.args.plan.now (g.E.Ends.ends c.args.ends.now) c.open_entry.result c.in-Some.entry c.open_entry.ensures c.in-Some.is

pub returns-in-None : goal.returns-in-None
returns-in-None g c = past_plan c.args.plan.now (g.E.Ends.ends c.args.ends.now) c.open_entry.result c.first_free.result c.open_entry.ensures c.in-None.is c.first_free.ensures
