use Rattle.std.proofs.Common.{[]}
use Rattle.fault_sets.specs.Reaching.{AddsFresh, HasNumbers}
use Rattle.fault_sets.proofs.RowSteps.{if_ok}
use Rattle.fault_sets.proofs.Rounds.{first_met}
use Rattle.fault_sets.proofs.reach.first_types.Goals as goal

pub returns-clause-met : goal.returns-clause-met
returns-clause-met g c = if_ok (λ new. AddsFresh c.args.met.now [] c.as_slice.result.now c.all_fresh.new.met new.items) (λ new. HasNumbers c.all_fresh.new.met new.items)
    (λ new one. (first_met c.args.met.now c.all_fresh.new.met new.items c.as_slice.result.now c.requires one).1) c.all_fresh.result c.all_fresh.ensures
