use Rattle.std.proofs.Common.{◌≡◌, drop}
use Rattle.std.specs.List.{list_any}
use Rattle.expr_nodes.specs.Ways.{same_turn}
use Rattle.expr_nodes.proofs.ways.takes_turn.Given as goal

abbrev pub invariant-loop-other : goal.invariant-loop-other
invariant-loop-other l = list_any (same_turn l.turn) (drop l.other-index l.way) ≡ list_any (same_turn l.turn) l.way
