use Rattle.dsl_tree.specs.Views.{part_tree}
use Rattle.work_counts.proofs.Sums.{kept_more}
use Rattle.work_parts.specs.Parts.{part_amount}
use Rattle.work_parts.proofs.phases.parts_tally.Goals as goal

pub loop-part-init : goal.loop-part-init
loop-part-init c = c.none-all.ensures

pub loop-part-preserved : goal.loop-part-preserved
loop-part-preserved c =
    kept_more (part_amount c.args.ticks) part_tree c.args.parts.now c.loop-part.part-index c.part-item.result c.loop-part.all c.part_tally.result c.with-all.result
    c.loop-part.invariant c.part_tally.ensures c.with-all.ensures c.loop-part-test.true c.part-item.is
