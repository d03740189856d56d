use Rattle.std.proofs.Common.{ap, ◌+◌, drop}
use Rattle.type_members.specs.dsl_tree.Views.{declaration_tree}
use Rattle.heading_faults.specs.Trees.{trees}
use Rattle.fault_sets.proofs.RowSteps.{left_is}
use Rattle.heading_faults.proofs.NameSteps.{next_name}
use Rattle.heading_faults.proofs.names.with_names.Goals as goal

pub loop-placed-preserved : goal.loop-placed-preserved
loop-placed-preserved c =
    next_name _ c.loop-placed.met.keys.keys c.with_twice.new.met.keys.keys c.loop-placed.found c.in_ok-found.found (declaration_tree c.placed-item.result.declaration.now)
    (trees (drop c.loop-placed.placed-index c.args.all.now)) (trees (drop (c.loop-placed.placed-index + 1) c.args.all.now))
    (ap trees (left_is c.args.all.now c.loop-placed.placed-index c.placed-item.result c.loop-placed-test.true c.placed-item.is))
    c.in_ok-found.ensures c.loop-placed.invariant
