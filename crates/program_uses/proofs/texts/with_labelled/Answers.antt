use Rattle.std.proofs.Common.{◌∙◌, ap, flat_map, map}
use Rattle.osc_base.specs.FaultRows.{first_from}
use Rattle.expr_nodes.specs.type_heads.Bodied.{seen_written}
use Rattle.program_uses.specs.SeenTexts.{written_rows}
use Rattle.program_uses.proofs.RowSteps.{two}
use Rattle.program_uses.proofs.TextSteps.{text_law}
use Rattle.program_uses.proofs.texts.with_labelled.Goals as goal

pub returns : goal.returns
returns c = λ ts told labelled.
    let rows = written_rows ts c.args.of in
    two (flat_map rows (map seen_written c.own.result.now)) (flat_map rows (map seen_written c.more.result.now)) c.args.first c.in_ok-declared.declared c.in_ok-found.found
    (c.in_ok-declared.ensures ts told labelled) (c.in_ok-found.ensures ts told labelled)
    ∙ ap (first_from c.args.first) (text_law ts c.args.of c.args.texts.now.bodies.now c.own.result.now c.more.result.now told.texts.bodies_told c.own.ensures c.more.ensures)
