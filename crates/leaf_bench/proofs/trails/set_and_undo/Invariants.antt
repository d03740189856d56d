use Rattle.leaf_bench.proofs.Undone.{IsAbove}
use Rattle.leaf_bench.proofs.trails.set_and_undo.Given as goal

abbrev pub invariant-loop-slot : goal.invariant-loop-slot
invariant-loop-slot l = IsAbove l.initial.trail l.trail l.slot
