use Rattle.std.proofs.Common.{◌≡◌, length, map}
use Rattle.record_trees.specs.Record.{are_in_order}
use Rattle.record_text.specs.Picked.{seen_pick}
use Rattle.record_text.proofs.picks.are_in_order.Given as goal

abbrev pub invariant-loop-rest : goal.invariant-loop-rest
invariant-loop-rest l = are_in_order 0 (map seen_pick l.picks) ≡ are_in_order l.from (map seen_pick l.rest)

abbrev pub decreases-loop-rest : goal.decreases-loop-rest
decreases-loop-rest l = length l.rest
