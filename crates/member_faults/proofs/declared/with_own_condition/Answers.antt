use Rattle.std.proofs.Common.{◌∙◌, [], ◌∷◌, ap, sym, length, map, subst}
use Rattle.std.specs.Prelude.{option_and_then, option_map}
use Rattle.type_members.specs.osc_base.declared.fault.FaultCode.{FaultCode}
use Rattle.type_members.specs.osc_base.FaultRows.{first_from, row}
use Rattle.type_members.specs.type_heads.Bodied.{seen_body}
use Rattle.type_members.specs.type_heads.Cycles.{returns as leads}
use Rattle.type_members.specs.type_heads.Members.{field}
use Rattle.type_members.specs.type_heads.MemberFaults.{depends_on}
use Rattle.type_members.specs.type_heads.Table.{base}
use Rattle.type_members.specs.Listed.{lists_of}
use Rattle.member_faults.specs.ConditionRows.{found_rows}
use Rattle.member_faults.specs.ListedRows.{found_field, types_with}
use Rattle.fault_sets.specs.Ranking.{IsShown}
use Rattle.fault_sets.proofs.RowSteps.{two}
use Rattle.member_faults.proofs.declared.with_own_condition.Goals as goal

pub with_return-requires : goal.with_return-requires
with_return-requires c =
    let d = c.args.depends.now in
    subst (λ n. IsShown n (depends_on (types_with d.heads.now (map seen_body d.bodies.now) (lists_of d.lists.now))) c.args.ranking.now) (sym c.count.ensures) c.requires

pub returns : goal.returns
returns c =
    let d = c.args.depends.now in
    let heads = d.heads.now in
    let ts = types_with heads (map seen_body d.bodies.now) (lists_of d.lists.now) in
    let condition = c.args.condition.now in
    two (row condition.field.place FaultCode.Cycle (leads (length heads) (depends_on ts) c.args.of) ∷ [])
    (found_rows heads condition (option_map found_field (option_and_then (λ b. field ts b condition.field.text) (base heads c.args.of))))
    c.args.first c.in_ok-first.first c.with_hit.result
    (c.in_ok-first.ensures ∙ ap (λ n. first_from c.args.first (row condition.field.place FaultCode.Cycle (leads n (depends_on ts) c.args.of) ∷ [])) c.count.ensures)
    (c.with_hit.ensures ∙ ap (λ o. first_from c.in_ok-first.first (found_rows heads condition o)) c.condition_field-hit.ensures)
