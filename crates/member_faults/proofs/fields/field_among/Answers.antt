use Rattle.std.proofs.Common.{◌∙◌, ◌+◌, ap, sym, List, drop, map}
use Rattle.std.specs.Option.{option_or}
use Rattle.type_members.specs.declared.listed.ListedMember.{ListedMember}
use Rattle.type_members.specs.Listed.{seen_listed}
use Rattle.type_members.specs.Shared.{under_inside}
use Rattle.member_faults.specs.ListedRows.{field_found}
use Rattle.member_faults.proofs.FoundFields.{found_next}
use Rattle.fault_sets.proofs.RowSteps.{left_is}
use Rattle.member_faults.proofs.fields.field_among.Goals as goal

pub returns-in-Some : goal.returns-in-Some
returns-in-Some c =
    let inside = c.args.inside in
    let later = drop (c.loop-listed.listed-index + 1) c.args.members.now in
    sym (c.loop-listed.invariant
    ∙ ap (λ (ms : List ListedMember). field_found c.args.name.now (map (under_inside inside) (map seen_listed ms))) (left_is c.args.members.now c.loop-listed.listed-index c.listed-item.result c.loop-listed-test.true c.listed-item.is)
    ∙ found_next (under_inside inside (seen_listed c.listed-item.result)) (map (under_inside inside) (map seen_listed later)) c.args.name.now
    ∙ ap (λ o. option_or o (field_found c.args.name.now (map (under_inside inside) (map seen_listed later)))) (sym c.in-Some.ensures))

pub loop-listed-preserved : goal.loop-listed-preserved
loop-listed-preserved c =
    let inside = c.args.inside in
    let later = drop (c.loop-listed.listed-index + 1) c.args.members.now in
    c.loop-listed.invariant
    ∙ ap (λ (ms : List ListedMember). field_found c.args.name.now (map (under_inside inside) (map seen_listed ms))) (left_is c.args.members.now c.loop-listed.listed-index c.listed-item.result c.loop-listed-test.true c.listed-item.is)
    ∙ found_next (under_inside inside (seen_listed c.listed-item.result)) (map (under_inside inside) (map seen_listed later)) c.args.name.now
    ∙ ap (λ o. option_or o (field_found c.args.name.now (map (under_inside inside) (map seen_listed later)))) (sym c.in-None.ensures)
