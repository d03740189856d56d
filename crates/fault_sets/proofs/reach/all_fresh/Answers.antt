use Rattle.std.proofs.Common.{[], subst, take_all}
use Rattle.fault_sets.specs.Reaching.{AddsFresh}
use Rattle.fault_sets.proofs.FreshNumbers.{next_fresh}
use Rattle.fault_sets.proofs.reach.all_fresh.Goals as goal

pub loop-of-preserved : goal.loop-of-preserved
loop-of-preserved c = next_fresh c.args.met.now c.loop-of.met c.push_fresh.new.met [] c.loop-of.new.items c.push_fresh.new.into.items c.args.types.now c.loop-of.of-index c.of-item.result
    c.loop-of-test.true c.of-item.is c.in_ok-push_fresh.ensures c.loop-of.invariant

pub returns : goal.returns
returns c = subst (λ ts. AddsFresh c.args.met.now [] ts c.loop-of.met c.loop-of.new.items) (take_all c.loop-of.of-index c.args.types.now c.loop-of-test.false) c.loop-of.invariant
