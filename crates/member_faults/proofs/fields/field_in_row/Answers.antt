use Rattle.std.proofs.Common.{◌∙◌, [], ap, map, option_and_then, sym, take}
use Rattle.std.specs.Prelude.{slice_get, slice_index_or}
use Rattle.type_members.specs.Listed.{seen_row}
use Rattle.member_faults.proofs.PartNames.{field_inside, field_picked}
use Rattle.member_faults.proofs.fields.field_in_row.Goals as goal

pub returns-in-Some : goal.returns-in-Some
returns-in-Some c =
    let part = c.args.part.now in
    let name = c.args.name.now in
    let row = slice_index_or (map seen_row c.args.lists.now.rows.items) part.row [] in
    c.field_at.ensures
    ∙ ap (λ ms. option_and_then (field_inside part.inside name) (slice_get ms c.in-Some.number)) c.part-in-Some.ensures
    ∙ ap (λ o. option_and_then (λ i. option_and_then (field_inside part.inside name) (slice_get (take part.to row) i)) o) (sym c.in-Some.is ∙ c.in_part.ensures)
    ∙ sym (field_picked c.args.row.now (map seen_row c.args.lists.now.rows.items) part name c.requires c.if-not-row.false)

pub returns-in-None : goal.returns-in-None
returns-in-None c =
    let part = c.args.part.now in
    let name = c.args.name.now in
    let row = slice_index_or (map seen_row c.args.lists.now.rows.items) part.row [] in
    ap (λ o. option_and_then (λ i. option_and_then (field_inside part.inside name) (slice_get (take part.to row) i)) o) (sym c.in-None.is ∙ c.in_part.ensures)
    ∙ sym (field_picked c.args.row.now (map seen_row c.args.lists.now.rows.items) part name c.requires c.if-not-row.false)
