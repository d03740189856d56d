use Rattle.std.proofs.Common.{◌∙◌, [], ap, map, sym, take}
use Rattle.std.specs.Prelude.{slice_index_or}
use Rattle.std.specs.Option.{option_or}
use Rattle.type_members.specs.Listed.{seen_row}
use Rattle.type_members.specs.Shared.{fronts_in, members_in_parts}
use Rattle.type_members.proofs.Moves.{inside_none}
use Rattle.member_faults.specs.ListedRows.{field_found}
use Rattle.member_faults.proofs.FoundFields.{found_joined}
use Rattle.member_faults.proofs.fields.field_of.Goals as goal

pub returns-in-Some : goal.returns-in-Some
returns-in-Some c =
    let rows = map seen_row c.args.lists.now.rows.items in
    let span = c.span-span.result in
    let name = c.args.name.now in
    let own = take span.len (slice_index_or rows span.row []) in
    sym (ap (field_found name) (sym c.span-span.ensures)
    ∙ found_joined (members_in_parts rows (slice_index_or (fronts_in c.args.lists.now.rows.items) span.row [])) own name
    ∙ ap (λ ps. option_or (field_found name (members_in_parts rows ps)) (field_found name own)) (sym c.front.ensures)
    ∙ ap (λ o. option_or o (field_found name own)) (sym c.in-Some.ensures))

pub returns-in-None : goal.returns-in-None
returns-in-None c =
    let rows = map seen_row c.args.lists.now.rows.items in
    let span = c.span-span.result in
    let name = c.args.name.now in
    let own = take span.len (slice_index_or rows span.row []) in
    sym (ap (field_found name) (sym c.span-span.ensures)
    ∙ found_joined (members_in_parts rows (slice_index_or (fronts_in c.args.lists.now.rows.items) span.row [])) own name
    ∙ ap (λ ps. option_or (field_found name (members_in_parts rows ps)) (field_found name own)) (sym c.front.ensures)
    ∙ ap (λ o. option_or o (field_found name own)) (sym c.in-None.ensures)
    ∙ ap (field_found name) (sym (inside_none own))
    ∙ sym c.field_in_part.ensures)
