use Rattle.std.proofs.Common.{take, flat_map}
use Rattle.heading_faults.specs.ItemSets.{ContinuesItems, items_in}
use Rattle.heading_faults.specs.Trees.{trees}
use Rattle.heading_faults.proofs.items.with_extensions.Given as goal

abbrev pub invariant-loop-extension : goal.invariant-loop-extension
invariant-loop-extension l = ContinuesItems l.fn.first l.fn.met l.found l.met (flat_map items_in (trees (take l.extension-index l.extensions)))
