use Rattle.std.proofs.Common.{◌∙◌, ◌++◌, [], ap, append-nil, false, map, sym, take}
use Rattle.std.specs.Prelude.{slice_index_or}
use Rattle.type_members.specs.osc_base.FaultRows.{first_from}
use Rattle.type_members.specs.type_heads.Seen.{seen_form}
use Rattle.type_members.specs.type_heads.MemberFaults.{do_rows}
use Rattle.type_members.specs.Listed.{seen_row}
use Rattle.type_members.specs.Shared.{fronts_in, members_in_parts, under_inside}
use Rattle.type_members.proofs.Moves.{inside_none}
use Rattle.member_faults.specs.RowFacts.{dos_among}
use Rattle.member_faults.proofs.PartSteps.{dos_joined}
use Rattle.member_faults.proofs.dos.with_all_dos.Goals as goal

pub returns : goal.returns
returns c =
    let form = seen_form c.args.form in
    let rows = map seen_row c.args.lists.now.rows.items in
    let span = c.args.span.now in
    let front = slice_index_or (fronts_in c.args.lists.now.rows.items) span.row [] in
    let own = take span.len (slice_index_or rows span.row []) in
    let after = c.with_parts-after.result in
    sym (ap (λ ds. first_from c.args.first (do_rows form false ds)) (sym (append-nil (dos_among (members_in_parts rows front ++ own))) ∙ dos_joined (members_in_parts rows front) own [])
    ∙ ap (λ ps. first_from c.args.first (do_rows form false (dos_among (members_in_parts rows ps) ++ (dos_among own ++ [])))) (sym c.front.ensures)
    ∙ c.with_parts-after.ensures (dos_among own ++ [])
    ∙ ap (λ ms. first_from after.first (do_rows form after.is_later (dos_among ms ++ []))) (sym (inside_none own) ∙ ap (map (under_inside 0)) (sym c.own.ensures))
    ∙ c.with_dos.ensures [])
