use Rattle.std.proofs.Common.{◌∙◌, ◌++◌, List, [], ap, false, map, slice_index_or}
use Rattle.type_members.specs.osc_base.FaultRows.{FaultRow, first_from}
use Rattle.type_members.specs.type_heads.Bodied.{seen_body}
use Rattle.type_members.specs.type_heads.MemberFaults.{condition_rows, do_rows, names_among, names_given, repeated_rows}
use Rattle.type_members.specs.type_heads.Table.{form}
use Rattle.type_members.specs.type_heads.Types.{Member}
use Rattle.type_members.specs.Listed.{lists_of, seen_row}
use Rattle.type_members.specs.Shared.{fronts_in, members_at}
use Rattle.member_faults.specs.ListedRows.{types_with}
use Rattle.member_faults.specs.RowFacts.{dos_among, initials_among}
use Rattle.fault_sets.proofs.RowSteps.{two}
use Rattle.member_faults.proofs.declared.with_listed.Goals as goal

pub returns : goal.returns
returns c =
    let d = c.args.depends.now in
    let heads = d.heads.now in
    let of = c.args.of in
    let ts = types_with heads (map seen_body d.bodies.now) (lists_of d.lists.now) in
    let same = c.requires.same in
    let named : List Member → List FaultRow = λ ms. repeated_rows (names_given (form heads of)) (names_among ms) in
    let dos : List Member → List FaultRow = λ ms. do_rows (form heads of) false (dos_among ms) in
    let initial : List Member → List FaultRow = λ ms. initials_among heads ms in
    let members : List Member = slice_index_or (lists_of d.lists.now) of [] in
    let listed : List Member = members_at (fronts_in d.lists.now.rows.items) (map seen_row d.lists.now.rows.items) c.args.span.now in
    two (named members ++ dos members ++ initial members) (condition_rows ts of) c.args.first c.with_all_initials-set.result c.in_ok-found.found
    (two (named members ++ dos members) (initial members) c.args.first c.with_all_dos-told.result c.with_all_initials-set.result
    (two (named members) (dos members) c.args.first c.in_ok-named.named c.with_all_dos-told.result
    (c.in_ok-named.ensures ∙ ap (λ f. first_from c.args.first (repeated_rows (names_given f) (names_among listed))) c.form-form.ensures
    ∙ ap (λ ms. first_from c.args.first (named ms)) same)
    (c.with_all_dos-told.ensures ∙ ap (λ f. first_from c.in_ok-named.named (do_rows f false (dos_among listed))) c.form-form.ensures
    ∙ ap (λ ms. first_from c.in_ok-named.named (dos ms)) same))
    (c.with_all_initials-set.ensures ∙ ap (λ ms. first_from c.with_all_dos-told.result (initial ms)) same))
    c.in_ok-found.ensures
