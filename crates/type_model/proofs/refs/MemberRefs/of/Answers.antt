use Rattle.std.proofs.Common.{◌∙◌, ap, map}
use Rattle.type_tables.specs.type_members.Listed.{seen_row}
use Rattle.type_tables.specs.type_members.Shared.{fronts_in}
use Rattle.type_model.specs.RowRefs.{ref_of}
use Rattle.type_model.proofs.RowsTold.{rows_told}
use Rattle.type_model.proofs.refs.MemberRefs.of.Goals as goal

pub returns : goal.returns
returns c =
    rows_told c.in_ok-rows.rows.items (map seen_row c.args.lists.now.rows.items) c.in_ok-fronts.fronts.items (fronts_in c.args.lists.now.rows.items)
    c.in_ok-spans.spans.items c.args.lists.now.spans.items
    (c.in_ok-rows.ensures ∙ ap (λ rows. map (map ref_of) (map seen_row rows)) c.rows.ensures)
    (c.in_ok-fronts.ensures ∙ ap fronts_in c.rows-2.ensures)
    (c.in_ok-spans.ensures.items ∙ c.spans.ensures)
