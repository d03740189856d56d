use Rattle.std.proofs.Common.{◌≡◌, ◌∙◌, ap, map, sym, true}
use Rattle.std.specs.Prelude.{slice_index_or}
use Rattle.type_members.specs.osc_base.FaultRows.{first_from}
use Rattle.type_members.specs.type_heads.Bodied.{seen_body}
use Rattle.type_members.specs.type_heads.MemberFaults.{condition_rows, type_rows}
use Rattle.type_members.specs.type_heads.Table.{form}
use Rattle.type_members.specs.Listed.{lists_of, seen_row}
use Rattle.type_members.specs.Shared.{fronts_in}
use Rattle.member_faults.specs.ListedRows.{types_with}
use Rattle.member_faults.specs.RowFacts.{is_plain, list_rows, none_known}
use Rattle.member_faults.proofs.KnownRows.{condition_left, plain_law}
use Rattle.fault_sets.proofs.RowSteps.{if_ok}
use Rattle.member_faults.proofs.declared.with_type.Goals as goal

pub returns-then-is_plain : goal.returns-then-is_plain
returns-then-is_plain c =
    let d = c.args.depends.now in
    let ts = types_with d.heads.now (map seen_body d.bodies.now) (lists_of d.lists.now) in
    let of = form d.heads.now c.args.of in
    let known = slice_index_or c.args.facts.now c.span-span.result.row none_known in
    let plain : is_plain known of ≡ true = ap (λ f. is_plain f of) (sym c.facts_at.ensures) ∙ ap (is_plain c.facts_at.result) (sym c.form-form.ensures) ∙ sym c.is_plain.ensures ∙ c.if-is_plain.true in
    if_ok (λ f. f ≡ first_from c.args.first (condition_rows ts c.args.of)) (λ f. f ≡ first_from c.args.first (type_rows ts c.args.of))
    (λ f is. is ∙ sym (condition_left ts c.args.of c.args.first
    (ap (λ ms. first_from c.args.first (list_rows d.heads.now of ms)) (sym c.span-span.ensures)
    ∙ plain_law d.heads.now (fronts_in d.lists.now.rows.items) (map seen_row d.lists.now.rows.items) c.args.facts.now c.span-span.result of c.args.first c.requires.so plain)))
    c.with_condition.result c.with_condition.ensures
