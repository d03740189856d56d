use Rattle.std.proofs.Common.{◌≡◌, ◌∙◌, ◌+◌, ◌<◌, ap, arith, drop, length, map}
use Rattle.osc_base.specs.FaultRows.{first_from, first_of, row_fault}
use Rattle.expr_nodes.specs.type_heads.Table.{all_types, numbers_from}
use Rattle.program_calls.specs.composition.Uses.{invocation_row}
use Rattle.program_uses.specs.InvokedTypes.{row_of}
use Rattle.program_uses.proofs.InvokedSteps.{next_number}
use Rattle.program_uses.proofs.TextSteps.{next_row, row_is}
use Rattle.program_uses.proofs.invocations.with_returning.Goals as goal

pub loop-number-preserved : goal.loop-number-preserved
loop-number-preserved c = λ ts told invoked.
    let heads = ts.table.heads in
    let n = c.loop-number.number in
    let count : c.count-number-end.result ≡ length heads = c.count-number-end.ensures ∙ ap (λ t. length t.heads) told.table in
    let less : n < length heads = omega (arith, count, c.loop-number-test.true) in
    next_row ts (first_from c.args.first (map (invocation_row ts) (all_types heads))) c.loop-number.fault c.with_fault-fault.result n (numbers_from n (drop n heads))
    (numbers_from (n + 1) (drop (n + 1) heads)) (next_number heads n n less)
    (c.with_fault-fault.ensures ∙ ap (λ r. first_of c.loop-number.fault (row_fault r)) (row_is ts c.args.types.now.table c.args.texts.now.bodies.now (row_of c.args.invoked.now) n c.place.result
    c.in_ok-is_wrong.is_wrong told.table told.texts.bodies_told invoked c.place.ensures c.in_ok-is_wrong.ensures))
    (c.loop-number.invariant ts told invoked)
