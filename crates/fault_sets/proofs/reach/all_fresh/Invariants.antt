use Rattle.std.proofs.Common.{[], take}
use Rattle.fault_sets.specs.Reaching.{AddsFresh}
use Rattle.fault_sets.proofs.reach.all_fresh.Given as goal

abbrev pub invariant-loop-of : goal.invariant-loop-of
invariant-loop-of l = AddsFresh l.fn.met [] (take l.of-index l.types) l.met l.new.items
