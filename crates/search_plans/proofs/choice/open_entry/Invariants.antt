use Rattle.std.proofs.Common.{◌≡◌, drop}
use Rattle.search_plans.specs.Plans.{open_entry}
use Rattle.search_plans.proofs.choice.open_entry.Given as goal

abbrev pub invariant-loop-entry : goal.invariant-loop-entry
invariant-loop-entry g l = open_entry l.plan (g.E.Ends.ends l.ends) ≡ open_entry (drop l.entry-index l.plan) (g.E.Ends.ends l.ends)
