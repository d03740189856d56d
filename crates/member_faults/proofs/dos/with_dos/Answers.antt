use Rattle.std.proofs.Common.{◌∙◌, ◌+◌, ◌++◌, ap, drop, map}
use Rattle.type_members.specs.osc_base.FaultRows.{first_from}
use Rattle.type_members.specs.type_heads.Seen.{seen_form}
use Rattle.type_members.specs.type_heads.Members.{do_declared}
use Rattle.type_members.specs.type_heads.MemberFaults.{do_rows}
use Rattle.type_members.specs.Listed.{seen_listed}
use Rattle.type_members.specs.Shared.{under_inside}
use Rattle.member_faults.specs.RowFacts.{dos_among}
use Rattle.member_faults.proofs.PartSteps.{do_joined}
use Rattle.fault_sets.proofs.RowSteps.{left_is}
use Rattle.member_faults.proofs.dos.with_dos.Goals as goal

pub loop-listed-preserved : goal.loop-listed-preserved
loop-listed-preserved c = λ later.
    let form = seen_form c.args.form in
    let m = under_inside c.args.inside (seen_listed c.listed-item.result) in
    let rest = dos_among (map (under_inside c.args.inside) (map seen_listed (drop (c.loop-listed.listed-index + 1) c.args.members.now))) in
    c.loop-listed.invariant later
    ∙ ap (λ ms. first_from c.loop-listed.after.first (do_rows form c.loop-listed.after.is_later (dos_among (map (under_inside c.args.inside) (map seen_listed ms)) ++ later)))
    (left_is c.args.members.now c.loop-listed.listed-index c.listed-item.result c.loop-listed-test.true c.listed-item.is)
    ∙ ap (λ ds. first_from c.loop-listed.after.first (do_rows form c.loop-listed.after.is_later ds)) (do_joined (do_declared m m.written.member) rest later)
    ∙ c.with_listed_do-after.ensures (rest ++ later)
