use Rattle.std.proofs.Common.{take_all, subst}
use Rattle.member_faults.specs.NamePlaces.{lent_names}
use Rattle.fault_sets.specs.NameRows.{ContinuesNames}
use Rattle.member_faults.proofs.RepeatedNames.{next_name}
use Rattle.member_faults.proofs.names.with_names.Goals as goal

pub loop-name-preserved : goal.loop-name-preserved
loop-name-preserved c = next_name c.args.first c.loop-name.found c.in_ok-found.found c.args.met.now c.loop-name.met c.with_name.new.met c.args.names.now c.loop-name.name-index c.name-item.result
    c.loop-name-test.true c.name-item.is c.in_ok-found.ensures c.loop-name.invariant

pub returns : goal.returns
returns c = subst (λ ns. ContinuesNames c.args.first c.args.met.now c.loop-name.found c.loop-name.met (lent_names ns)) (take_all c.loop-name.name-index c.args.names.now c.loop-name-test.false) c.loop-name.invariant
