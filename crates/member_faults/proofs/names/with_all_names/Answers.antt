use Rattle.std.proofs.Common.{◌≡◌, ◌++◌, List, [], map, sym, subst, take}
use Rattle.std.specs.Prelude.{slice_index_or}
use Rattle.std.proofs.lemmas.List.Concat.{flat_map-append}
use Rattle.type_members.specs.osc_base.FaultRows.{first_from}
use Rattle.type_members.specs.type_heads.Seen.{seen_form}
use Rattle.type_members.specs.type_heads.Types.{Member}
use Rattle.type_members.specs.type_heads.MemberFaults.{member_names, names_among, names_given, repeated_rows}
use Rattle.type_members.specs.Listed.{seen_listed, seen_row}
use Rattle.type_members.specs.Shared.{fronts_in, members_in_parts}
use Rattle.fault_sets.specs.NameRows.{ContinuesNames}
use Rattle.fault_sets.proofs.RowSteps.{if_ok}
use Rattle.member_faults.proofs.RepeatedNames.{all_names, then_names}
use Rattle.member_faults.proofs.names.with_all_names.Goals as goal

pub returns : goal.returns
returns c =
    let given = names_given (seen_form c.args.form) in
    let rows : List (List Member) = map seen_row c.args.lists.now.rows.items in
    let span = c.args.span.now in
    let front : List Member = members_in_parts rows (slice_index_or (fronts_in c.args.lists.now.rows.items) span.row []) in
    let own : List Member = take span.len (slice_index_or rows span.row []) in
    let one : ContinuesNames c.args.first c.in_ok-met.met c.in_ok-found.found c.with_parts.new.met (names_among front) =
    subst (λ ps. ContinuesNames c.args.first c.in_ok-met.met c.in_ok-found.found c.with_parts.new.met (names_among (members_in_parts rows ps))) c.front.ensures c.in_ok-found.ensures in
    if_ok (λ f. ContinuesNames c.in_ok-found.found c.with_parts.new.met f c.with_members.new.met (names_among (map seen_listed c.own.result.now))) (λ f. f ≡ first_from c.args.first (repeated_rows given (names_among (front ++ own))))
    (λ f more. all_names c.args.first f c.in_ok-met.met c.with_members.new.met given (names_among (front ++ own)) c.in_ok-met.ensures
    (subst (ContinuesNames c.args.first c.in_ok-met.met f c.with_members.new.met) (sym (flat_map-append (λ (m : Member). member_names m.written.member) front own))
    (then_names c.args.first c.in_ok-found.found f c.in_ok-met.met c.with_parts.new.met c.with_members.new.met (names_among front) (names_among own) one
    (subst (λ ms. ContinuesNames c.in_ok-found.found c.with_parts.new.met f c.with_members.new.met (names_among ms)) c.own.ensures more))))
    c.with_members.result c.with_members.ensures
