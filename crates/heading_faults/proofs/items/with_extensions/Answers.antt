use Rattle.std.proofs.Common.{take_all, subst, flat_map}
use Rattle.heading_faults.specs.ItemSets.{ContinuesItems, items_in}
use Rattle.heading_faults.specs.Trees.{trees}
use Rattle.heading_faults.proofs.ItemSteps.{next_extension}
use Rattle.heading_faults.proofs.items.with_extensions.Goals as goal

pub loop-extension-preserved : goal.loop-extension-preserved
loop-extension-preserved c = next_extension c.args.first c.loop-extension.found c.in_ok-found.found c.args.met.now c.loop-extension.met c.with_items.new.met c.args.extensions.now
    c.loop-extension.extension-index c.extension-item.result c.items_added.result.now
    c.loop-extension-test.true c.extension-item.is c.items_added.ensures c.in_ok-found.ensures c.loop-extension.invariant

pub returns : goal.returns
returns c = subst (λ ps. ContinuesItems c.args.first c.args.met.now c.loop-extension.found c.loop-extension.met (flat_map items_in (trees ps)))
    (take_all c.loop-extension.extension-index c.args.extensions.now c.loop-extension-test.false) c.loop-extension.invariant
