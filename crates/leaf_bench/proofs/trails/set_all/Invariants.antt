use Rattle.std.proofs.Common.{◌≡◌, ◌*◌}
use Rattle.leaf_bench.proofs.trails.set_all.Given as goal

abbrev pub invariant-loop : goal.invariant-loop
invariant-loop l = (l.trail ≡ l.initial.trail) × (l.sets ≡ l.counter * 32)
