use Rattle.std.proofs.Common.{◌∙◌, ◌-◌, ap, length}
use Rattle.program_texts.specs.type_heads.Table.{Table, base}
use Rattle.program_texts.specs.SeenTexts.{types_in}
use Rattle.work_counts.specs.Amounts.{kept}
use Rattle.work_counts.specs.TextAmounts.{base_amount}
use Rattle.work_counts.proofs.Sums.{counted_all, counted_init, counted_more, line_end, line_none, line_split, on_line}
use Rattle.work_counts.proofs.members.line_tally.Goals as goal

pub loop-steps-init : goal.loop-steps-init
loop-steps-init c =
    let f = base_amount (types_in c.args.texts.now) c.args.of in
    let heads = (types_in c.args.texts.now).table.heads in
    counted_init c.none-all.result (on_line f heads c.count-steps.result c.args.first) (on_line f heads (length heads) c.args.first) c.none-all.ensures
    (ap (λ n. on_line f heads n c.args.first) (c.count-steps.ensures ∙ ap (λ (t : Table). length t.heads) c.types.ensures))

pub loop-steps-preserved : goal.loop-steps-preserved
loop-steps-preserved c =
    let f = base_amount (types_in c.args.texts.now) c.args.of in
    let heads = (types_in c.args.texts.now).table.heads in
    counted_more c.loop-steps.all c.base_tally.result c.with-all.result (kept (on_line f heads c.loop-steps.steps c.loop-steps.at)) (kept (on_line f heads (c.loop-steps.steps - 1) c.base-at.result))
    (kept (on_line f heads (length heads) c.args.first)) c.loop-steps.invariant c.with-all.ensures
    (line_split f heads c.loop-steps.steps c.loop-steps.at c.in-Some.current c.base-at.result c.base_tally.result c.loop-steps-test.true c.in-Some.is
    (c.base-at.ensures ∙ ap (λ (t : Table). base t.heads c.in-Some.current) c.types-in-loop-steps.ensures) c.base_tally.ensures)

pub returns-in_default : goal.returns-in_default
returns-in_default c =
    let f = base_amount (types_in c.args.texts.now) c.args.of in
    let heads = (types_in c.args.texts.now).table.heads in
    counted_all c.loop-steps.all (kept (on_line f heads c.loop-steps.steps c.loop-steps.at)) (kept (on_line f heads (length heads) c.args.first)) c.loop-steps.invariant
    (line_none f heads c.loop-steps.steps c.loop-steps.at c.in_default.is)

pub returns : goal.returns
returns c =
    let f = base_amount (types_in c.args.texts.now) c.args.of in
    let heads = (types_in c.args.texts.now).table.heads in
    counted_all c.loop-steps.all (kept (on_line f heads c.loop-steps.steps c.loop-steps.at)) (kept (on_line f heads (length heads) c.args.first)) c.loop-steps.invariant
    (line_end f heads c.loop-steps.steps c.loop-steps.at c.loop-steps-test.false)
