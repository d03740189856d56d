use Rattle.type_tables.proofs.FieldSpans.{all_fields}
use Rattle.type_tables.proofs.field_lists.FieldLists.of.Goals as goal

pub returns : goal.returns
returns c =
    all_fields c.args.heads.now c.in_ok-rows.rows.items c.as_slice.result.now c.as_slice-2.result.now
    c.args.lists.now.rows.items c.rows.result.now c.rows-2.result.now
    c.in_ok-fronts.fronts.items c.args.lists.now.spans.items c.spans.result.now c.in_ok-spans.spans.items
    c.as_slice.ensures.value c.as_slice-2.ensures.value c.rows.ensures c.rows-2.ensures c.spans.ensures
    c.in_ok-rows.ensures.tables c.in_ok-rows.ensures.ends c.in_ok-fronts.ensures c.in_ok-spans.ensures
