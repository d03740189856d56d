use Rattle.std.proofs.Common.{◌∙◌, ◌∷◌, ap, length}
use Rattle.expr_nodes.specs.type_heads.Table.{Table, base, bases}
use Rattle.program_texts.specs.SeenTexts.{types_in}
use Rattle.text_constraints.proofs.LineSteps.{line_end, line_init, line_more, line_none}
use Rattle.text_constraints.proofs.conditions.line_of.Goals as goal

pub loop-steps-init : goal.loop-steps-init
loop-steps-init c =
    let heads = (types_in c.args.texts.now).table.heads in
    line_init heads c.args.of c.count-steps.result c.base-at.result c.new-line.result c.push.new.self c.new-line.ensures c.in_ok-push.ensures.ok
    (c.count-steps.ensures ∙ ap (λ (t : Table). length t.heads) c.types-2.ensures) (c.base-at.ensures ∙ ap (λ (t : Table). base t.heads c.args.of) c.types.ensures)

pub loop-steps-preserved : goal.loop-steps-preserved
loop-steps-preserved c =
    let heads = (types_in c.args.texts.now).table.heads in
    line_more heads c.loop-steps.steps c.loop-steps.at c.base-at-in-loop-steps.result c.in-Some.current c.loop-steps.line c.push-in-loop-steps.new.self (c.args.of ∷ bases heads c.args.of) c.loop-steps-test.true c.in-Some.is
    (c.base-at-in-loop-steps.ensures ∙ ap (λ (t : Table). base t.heads c.in-Some.current) c.types-in-loop-steps.ensures) c.in_ok-push-2.ensures.ok c.loop-steps.invariant

pub returns-in_default : goal.returns-in_default
returns-in_default c =
    let heads = (types_in c.args.texts.now).table.heads in
    line_none heads c.loop-steps.steps c.loop-steps.at c.loop-steps.line (c.args.of ∷ bases heads c.args.of) c.in_default.is c.loop-steps.invariant

pub returns : goal.returns
returns c =
    let heads = (types_in c.args.texts.now).table.heads in
    line_end heads c.loop-steps.steps c.loop-steps.at c.loop-steps.line (c.args.of ∷ bases heads c.args.of) c.loop-steps-test.false c.loop-steps.invariant
