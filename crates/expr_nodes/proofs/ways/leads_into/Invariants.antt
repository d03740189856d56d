use Rattle.std.proofs.Common.{◌≡◌, drop}
use Rattle.expr_nodes.specs.Ways.{leads_into}
use Rattle.expr_nodes.proofs.ways.leads_into.Given as goal

abbrev pub invariant-loop-turn : goal.invariant-loop-turn
invariant-loop-turn l = leads_into l.way (drop l.turn-index l.other) ≡ leads_into l.way l.other
