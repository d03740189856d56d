use Rattle.std.proofs.Common.{flat_map, map, refl}
use Rattle.osc_base.specs.FaultRows.{first_from}
use Rattle.expr_nodes.specs.type_heads.Bodied.{seen_written}
use Rattle.program_uses.specs.SeenTexts.{written_rows}
use Rattle.program_uses.proofs.RowSteps.{each_more}
use Rattle.program_uses.proofs.texts.with_members.Goals as goal

pub loop-written-preserved : goal.loop-written-preserved
loop-written-preserved c = λ ts told labelled.
    let rows = written_rows ts c.args.of in
    let ms = c.args.members.now in
    each_more rows seen_written ms ms c.loop-written.written-index refl c.written-item.result (first_from c.args.first (flat_map rows (map seen_written ms)))
    c.loop-written.fault c.in_ok-fault.fault c.loop-written-test.true c.written-item.is
    (c.in_ok-fault.ensures ts told labelled (c.scope_at-scope.ensures ts labelled)) (c.loop-written.invariant ts told labelled)
