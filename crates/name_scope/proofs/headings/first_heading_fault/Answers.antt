use Rattle.name_scope.specs.Headings.{declarations}
use Rattle.name_scope.proofs.HeadingRows.{next_file}
use Rattle.name_scope.proofs.headings.first_heading_fault.Goals as goal

pub loop-number-preserved : goal.loop-number-preserved
loop-number-preserved c = next_file (declarations c.args.sources.now) c.args.sources.now c.loop-number.number c.index-sources-number.result c.loop-number.found c.with_file-found.result _
    c.loop-number-test.true c.index-sources-number.is c.with_file-found.ensures c.loop-number.invariant
