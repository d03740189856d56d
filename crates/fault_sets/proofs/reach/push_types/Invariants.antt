use Rattle.std.proofs.Common.{◌≡◌, ◌++◌, take}
use Rattle.fault_sets.proofs.reach.push_types.Given as goal

abbrev pub invariant-loop-of : goal.invariant-loop-of
invariant-loop-of l = l.into.items ≡ l.fn.into.items ++ take l.of-index l.types
