use Rattle.std.proofs.Common.{◌∙◌, ◌+◌, [], ap, map, refl, slice_index_or}
use Rattle.program_texts.specs.type_heads.Members.{members}
use Rattle.program_texts.specs.type_heads.Types.{Member}
use Rattle.program_texts.specs.type_members.Listed.{seen_listed, seen_row}
use Rattle.program_texts.specs.type_members.Shared.{fronts_in}
use Rattle.program_texts.proofs.of_program_fields.Fronts.{all_left, left_at, own_left}
use Rattle.program_texts.specs.SeenTexts.{types_in}
use Rattle.work_counts.specs.Amounts.{kept, sum_of}
use Rattle.work_counts.specs.TextAmounts.{member_amount}
use Rattle.work_counts.proofs.PartSums.{counted_part}
use Rattle.work_counts.proofs.Sums.{counted_init, counted_last, counted_more}
use Rattle.work_counts.proofs.members.parts_tally.Goals as goal

pub loop-part-init : goal.loop-part-init
loop-part-init c =
    let ts = types_in c.args.texts.now in
    let f = λ (m : Member). member_amount ts m.written.member in
    let rows = c.lists-lists.result.now.rows.items in
    let parts = c.front-part-items.result.now in
    counted_init c.none-all.result (sum_of f (left_at (map seen_row rows) parts 0 c.span-span.result)) (sum_of f (members ts c.args.of)) c.none-all.ensures
    (all_left (map seen_row rows) c.span-span.result (λ ms. sum_of f ms) (fronts_in rows) parts c.front-part-items.ensures
    ∙ ap (λ ms. sum_of f ms) (c.span-span.ensures ∙ ap (λ all. slice_index_or all c.args.of []) c.lists-lists.ensures))

pub loop-part-preserved : goal.loop-part-preserved
loop-part-preserved c =
    let ts = types_in c.args.texts.now in
    let f = λ (m : Member). member_amount ts m.written.member in
    let rows = map seen_row c.lists-lists.result.now.rows.items in
    let parts = c.front-part-items.result.now in
    let s = c.span-span.result in
    let i = c.loop-part.part-index in
    counted_more c.loop-part.all c.members_tally.result c.with-all.result (kept (sum_of f (left_at rows parts i s))) (kept (sum_of f (left_at rows parts (i + 1) s)))
    (kept (sum_of f (members ts c.args.of))) c.loop-part.invariant c.with-all.ensures
    (counted_part f (λ k m. refl) rows s parts i _ c.loop-part-test.true (map seen_listed c.part.result.now) c.members_tally.result c.part.ensures c.members_tally.ensures)

pub returns : goal.returns
returns c =
    let ts = types_in c.args.texts.now in
    let f = λ (m : Member). member_amount ts m.written.member in
    let rows = map seen_row c.lists-lists.result.now.rows.items in
    let parts = c.front-part-items.result.now in
    let s = c.span-span.result in
    let i = c.loop-part.part-index in
    counted_last c.loop-part.all c.members_tally-2.result c.with.result (kept (sum_of f (left_at rows parts i s))) (kept (sum_of f (members ts c.args.of)))
    c.loop-part.invariant c.with.ensures
    (c.members_tally-2.ensures ∙ ap (λ ms. kept (sum_of f ms)) c.own.ensures
    ∙ own_left rows s parts i (λ ms. kept (sum_of f ms)) (kept (sum_of f (left_at rows parts i s))) c.loop-part-test.false refl)
