use Rattle.std.proofs.Common.{◌≡◌}
use Rattle.leaf_bench.specs.Small.{all_near}
use Rattle.leaf_bench.proofs.judgements.make_rule.Given as goal

abbrev pub invariant-loop-slot : goal.invariant-loop-slot
invariant-loop-slot l = l.rule ≡ all_near l.slot
