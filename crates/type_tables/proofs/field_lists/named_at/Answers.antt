use Rattle.std.proofs.Common.{◌∙◌, refl, sym, ap, List, [], Option, map, option_copied, slice_index_or, take, bytes_eq}
use Rattle.std.specs.Option.{option_or}
use Rattle.std.proofs.lemmas.List.Folds.{find-append}
use Rattle.type_members.specs.type_heads.Table.{TableField, field_in}
use Rattle.type_members.specs.Shared.{part_at}
use Rattle.type_tables.specs.InParts.{first_found}
use Rattle.type_tables.specs.declared.field_rows.FieldRow.{FieldRow}
use Rattle.type_tables.proofs.NamedInParts.{in_list}
use Rattle.type_tables.proofs.field_lists.named_at.Goals as goal

pub returns-in-Some : goal.returns-in-Some
returns-in-Some c =
    let tables : List (List TableField) = map (λ (r : FieldRow). r.table) c.args.rows.now in
    let look : List TableField → Option TableField = λ fs. field_in fs c.args.name.now in
    ap (λ o. option_or o (look (take c.args.span.now.len (slice_index_or tables c.args.span.now.row []))))
    (ap option_copied (sym c.in-Some.is) ∙ c.named_in_parts.ensures ∙ ap (first_found (λ p. look (part_at tables p))) c.front_of.ensures)
    ∙ sym (in_list look refl (find-append (λ (f : TableField). bytes_eq f.name c.args.name.now)) tables c.args.fronts.now c.args.span.now)

pub returns-in-None : goal.returns-in-None
returns-in-None c =
    let tables : List (List TableField) = map (λ (r : FieldRow). r.table) c.args.rows.now in
    let look : List TableField → Option TableField = λ fs. field_in fs c.args.name.now in
    c.named_in_row.ensures
    ∙ ap (λ o. option_or o (look (take c.args.span.now.len (slice_index_or tables c.args.span.now.row []))))
    (ap option_copied (sym c.in-None.is) ∙ c.named_in_parts.ensures ∙ ap (first_found (λ p. look (part_at tables p))) c.front_of.ensures)
    ∙ sym (in_list look refl (find-append (λ (f : TableField). bytes_eq f.name c.args.name.now)) tables c.args.fronts.now c.args.span.now)
