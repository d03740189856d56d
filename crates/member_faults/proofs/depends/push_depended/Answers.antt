use Rattle.std.proofs.Common.{◌∙◌, ◌++◌, ap, append_assoc, length, map}
use Rattle.std.specs.Prelude.{filter}
use Rattle.type_members.specs.type_heads.Bodied.{seen_body}
use Rattle.type_members.specs.type_heads.Members.{is_conditional}
use Rattle.type_members.specs.type_heads.Table.{line_within}
use Rattle.type_members.specs.Listed.{lists_of}
use Rattle.member_faults.specs.ListedRows.{field_under}
use Rattle.member_faults.proofs.ConditionSteps.{depends_is}
use Rattle.member_faults.proofs.depends.push_depended.Goals as goal

pub returns : goal.returns
returns c =
    let heads = c.args.heads.now in
    let bodies = map seen_body c.args.bodies.now in
    let members = lists_of c.args.lists.now in
    let test = is_conditional bodies in
    let under = field_under heads bodies members c.args.of in
    let into = c.args.into.now.items in
    c.in_ok-push_all_conditional.ensures
    ∙ ap (λ xs. xs ++ filter test c.as_slice.result.now) c.in_ok-push_field_under.ensures
    ∙ append_assoc into under (filter test c.as_slice.result.now)
    ∙ ap (λ bs. into ++ (under ++ filter test bs)) (c.as_slice.ensures.value ∙ c.in_ok-bases.ensures ∙ ap (line_within (length heads) heads) c.base.ensures)
    ∙ ap (λ xs. into ++ xs) (depends_is heads bodies members c.args.of)
