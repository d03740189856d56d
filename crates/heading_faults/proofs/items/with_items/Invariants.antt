use Rattle.std.proofs.Common.{take}
use Rattle.heading_faults.specs.ItemSets.{ContinuesItems}
use Rattle.heading_faults.proofs.items.with_items.Given as goal

abbrev pub invariant-loop-item : goal.invariant-loop-item
invariant-loop-item l = ContinuesItems l.fn.first l.fn.met l.found l.met (take l.item-index l.items)
