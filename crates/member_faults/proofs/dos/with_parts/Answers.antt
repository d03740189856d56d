use Rattle.std.proofs.Common.{◌∙◌, ◌+◌, ◌++◌, ap, drop, map}
use Rattle.std.proofs.lemmas.List.{drop_more}
use Rattle.type_members.specs.osc_base.FaultRows.{first_from}
use Rattle.type_members.specs.type_heads.Seen.{seen_form}
use Rattle.type_members.specs.type_heads.MemberFaults.{do_rows}
use Rattle.type_members.specs.Listed.{seen_row}
use Rattle.type_members.specs.Shared.{members_in_part, members_in_parts}
use Rattle.member_faults.specs.RowFacts.{dos_among}
use Rattle.member_faults.proofs.PartSteps.{dos_joined, part_seen}
use Rattle.member_faults.proofs.dos.with_parts.Goals as goal

pub loop-part-preserved : goal.loop-part-preserved
loop-part-preserved c = λ later.
    let form = seen_form c.args.form in
    let rows = map seen_row c.args.lists.now.rows.items in
    let rest = drop (c.loop-part.part-index + 1) c.args.parts.now in
    c.loop-part.invariant later
    ∙ ap (λ ps. first_from c.loop-part.after.first (do_rows form c.loop-part.after.is_later (dos_among (members_in_parts rows ps) ++ later)))
    (drop_more c.args.parts.now c.loop-part.part-index _ c.loop-part-test.true)
    ∙ ap (λ ds. first_from c.loop-part.after.first (do_rows form c.loop-part.after.is_later ds)) (dos_joined (members_in_part rows _) (members_in_parts rows rest) later)
    ∙ ap (λ ms. first_from c.loop-part.after.first (do_rows form c.loop-part.after.is_later (dos_among ms ++ (dos_among (members_in_parts rows rest) ++ later)))) (part_seen rows _ _ c.part.ensures)
    ∙ c.with_dos-after.ensures (dos_among (members_in_parts rows rest) ++ later)
