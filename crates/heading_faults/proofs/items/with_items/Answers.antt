use Rattle.std.proofs.Common.{take_all, subst}
use Rattle.heading_faults.specs.ItemSets.{ContinuesItems}
use Rattle.heading_faults.proofs.ItemSteps.{next_item}
use Rattle.heading_faults.proofs.items.with_items.Goals as goal

pub loop-item-preserved : goal.loop-item-preserved
loop-item-preserved c = next_item c.args.first c.loop-item.found c.in_ok-found.found c.args.met.now c.loop-item.met c.with_item.new.met c.args.items.now c.loop-item.item-index c.item-item.result
    c.loop-item-test.true c.item-item.is c.in_ok-found.ensures c.loop-item.invariant

pub returns : goal.returns
returns c = subst (ContinuesItems c.args.first c.args.met.now c.loop-item.found c.loop-item.met) (take_all c.loop-item.item-index c.args.items.now c.loop-item-test.false) c.loop-item.invariant
