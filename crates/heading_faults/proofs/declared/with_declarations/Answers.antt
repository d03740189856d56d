use Rattle.std.proofs.Common.{◌∙◌, ◌+◌, ap, drop, flat_map}
use Rattle.type_members.specs.osc_base.FaultRows.{first_from}
use Rattle.type_members.specs.dsl_tree.Views.{declaration_tree}
use Rattle.type_members.specs.type_heads.HeadingFaults.{declaration_rows}
use Rattle.heading_faults.specs.Trees.{trees}
use Rattle.fault_sets.proofs.RowSteps.{done, left_is}
use Rattle.heading_faults.proofs.declared.with_declarations.Goals as goal

pub loop-placed-preserved : goal.loop-placed-preserved
loop-placed-preserved c = done (declaration_rows c.args.heads.now (declaration_tree c.placed-item.result.declaration.now))
    (flat_map (declaration_rows c.args.heads.now) (trees (drop (c.loop-placed.placed-index + 1) c.args.all.now))) c.loop-placed.found c.in_ok-found.found
    (first_from c.args.first (flat_map (declaration_rows c.args.heads.now) (trees c.args.all.now))) c.in_ok-found.ensures
    (c.loop-placed.invariant ∙ ap (λ ps. first_from c.loop-placed.found (flat_map (declaration_rows c.args.heads.now) (trees ps)))
    (left_is c.args.all.now c.loop-placed.placed-index c.placed-item.result c.loop-placed-test.true c.placed-item.is))
