use Rattle.std.proofs.Common.{◌∙◌, [], ap, map, sym, take}
use Rattle.std.specs.Prelude.{slice_index_or}
use Rattle.std.proofs.lemmas.List.Concat.{flat_map-append}
use Rattle.type_members.specs.osc_base.FaultRows.{first_from}
use Rattle.type_members.specs.type_heads.Types.{Member}
use Rattle.type_members.specs.type_heads.MemberFaults.{initial_rows}
use Rattle.type_members.specs.Listed.{seen_row}
use Rattle.type_members.specs.Shared.{fronts_in, members_in_parts}
use Rattle.member_faults.specs.RowFacts.{initials_among}
use Rattle.fault_sets.proofs.RowSteps.{two}
use Rattle.member_faults.proofs.initial.with_all_initials.Goals as goal

pub returns : goal.returns
returns c =
    let heads = c.args.heads.now in
    let rows = map seen_row c.args.lists.now.rows.items in
    let span = c.args.span.now in
    let front = members_in_parts rows (slice_index_or (fronts_in c.args.lists.now.rows.items) span.row []) in
    let own = take span.len (slice_index_or rows span.row []) in
    two (initials_among heads front) (initials_among heads own) c.args.first c.with_parts-found.result c.with_initials.result
    (c.with_parts-found.ensures ∙ ap (λ ps. first_from c.args.first (initials_among heads (members_in_parts rows ps))) c.front.ensures)
    (c.with_initials.ensures ∙ ap (λ ms. first_from c.with_parts-found.result (initials_among heads ms)) c.own.ensures)
    ∙ ap (first_from c.args.first) (sym (flat_map-append (λ (m : Member). initial_rows heads m.written.member) front own))
