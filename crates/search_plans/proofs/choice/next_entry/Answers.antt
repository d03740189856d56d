use Rattle.search_plans.proofs.Choices.{next_wide, none_found}
use Rattle.search_plans.proofs.choice.next_entry.Goals as goal

pub returns-clause-wide : goal.returns-clause-wide
returns-clause-wide g c = next_wide c.args.plan.now (g.E.Ends.ends c.args.ends.now) c.first_of.result c.first_of.ensures

pub returns-clause-none : goal.returns-clause-none
returns-clause-none g c = none_found c.args.plan.now (g.E.Ends.ends c.args.ends.now) c.first_of.result c.first_of.ensures
