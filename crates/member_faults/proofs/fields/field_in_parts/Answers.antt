use Rattle.std.proofs.Common.{◌∙◌, ◌+◌, ap, sym, drop, map}
use Rattle.std.specs.Option.{option_or}
use Rattle.std.proofs.lemmas.List.{drop_more}
use Rattle.type_members.specs.Listed.{seen_row}
use Rattle.type_members.specs.Shared.{members_in_part, members_in_parts}
use Rattle.member_faults.specs.ListedRows.{field_found}
use Rattle.member_faults.proofs.FoundFields.{found_joined}
use Rattle.member_faults.proofs.fields.field_in_parts.Goals as goal

pub returns-in-Some : goal.returns-in-Some
returns-in-Some c =
    let rows = map seen_row c.args.lists.now.rows.items in
    let later = members_in_parts rows (drop (c.loop-part.part-index + 1) c.args.parts.now) in
    sym (c.loop-part.invariant
    ∙ ap (λ ps. field_found c.args.name.now (members_in_parts rows ps)) (drop_more c.args.parts.now c.loop-part.part-index _ c.loop-part-test.true)
    ∙ found_joined (members_in_part rows _) later c.args.name.now
    ∙ ap (λ o. option_or o (field_found c.args.name.now later)) (sym c.in-Some.ensures))

pub loop-part-preserved : goal.loop-part-preserved
loop-part-preserved c =
    let rows = map seen_row c.args.lists.now.rows.items in
    let later = members_in_parts rows (drop (c.loop-part.part-index + 1) c.args.parts.now) in
    c.loop-part.invariant
    ∙ ap (λ ps. field_found c.args.name.now (members_in_parts rows ps)) (drop_more c.args.parts.now c.loop-part.part-index _ c.loop-part-test.true)
    ∙ found_joined (members_in_part rows _) later c.args.name.now
    ∙ ap (λ o. option_or o (field_found c.args.name.now later)) (sym c.in-None.ensures)
