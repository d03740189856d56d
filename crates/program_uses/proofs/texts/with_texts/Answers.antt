use Rattle.std.proofs.Common.{◌≡◌, ◌∙◌, ◌+◌, ◌<◌, ◌≤◌, ap, arith, drop, flat_map, length, sym}
use Rattle.osc_base.specs.FaultRows.{first_from}
use Rattle.expr_nodes.specs.type_heads.Table.{all_types, numbers_from}
use Rattle.program_calls.specs.composition.Uses.{text_rows}
use Rattle.program_uses.proofs.InvokedSteps.{next_number, no_number}
use Rattle.program_uses.proofs.TextSteps.{next_text}
use Rattle.program_uses.proofs.texts.with_texts.Goals as goal

pub loop-number-preserved : goal.loop-number-preserved
loop-number-preserved c = λ ts told.
    let heads = ts.table.heads in
    let n = c.loop-number.number in
    let count : c.count-number-end.result ≡ length heads = c.count-number-end.ensures ∙ ap (λ t. length t.heads) told.table in
    let less : n < length heads = omega (arith, count, c.loop-number-test.true) in
    next_text ts (first_from c.args.first (flat_map (text_rows ts) (all_types heads))) c.loop-number.fault c.in_ok-fault.fault n (numbers_from n (drop n heads))
    (numbers_from (n + 1) (drop (n + 1) heads)) (next_number heads n n less) (c.in_ok-fault.ensures ts told) (c.loop-number.invariant ts told)

pub returns : goal.returns
returns c = λ ts told.
    let heads = ts.table.heads in
    let n = c.loop-number.number in
    let count : c.count-number-end.result ≡ length heads = c.count-number-end.ensures ∙ ap (λ t. length t.heads) told.table in
    let more : length heads ≤ n = omega (arith, count, c.loop-number-test.false) in
    sym (c.loop-number.invariant ts told ∙ ap (λ ns. first_from c.loop-number.fault (flat_map (text_rows ts) ns)) (no_number heads n n more))
