use Rattle.std.proofs.Common.{◌-◌}
use Rattle.bound_trail.specs.History.{present}
use Rattle.search_laws.specs.Halves.{IsHalved}
use Rattle.seeded_search.proofs.halving.halved.Given as goal

abbrev pub invariant-loop-least : goal.invariant-loop-least
invariant-loop-least l = IsHalved (present l.trail) l.rule l.slot l.side l.least l.most

abbrev pub decreases-loop-least : goal.decreases-loop-least
decreases-loop-least l = l.most - l.least
