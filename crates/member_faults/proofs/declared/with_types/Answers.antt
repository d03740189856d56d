use Rattle.std.proofs.Common.{◌∙◌, ◌+◌, ◌<◌, ◌≤◌, ap, sym, subst, drop, flat_map, length, map, arith}
use Rattle.type_members.specs.osc_base.FaultRows.{first_from}
use Rattle.type_members.specs.type_heads.Bodied.{seen_body}
use Rattle.type_members.specs.type_heads.MemberFaults.{type_rows}
use Rattle.type_members.specs.type_heads.Table.{all_types, numbers_from}
use Rattle.type_members.specs.Listed.{lists_of, seen_row}
use Rattle.type_members.specs.Shared.{AreStarted, fronts_in}
use Rattle.member_faults.specs.ListedRows.{types_with}
use Rattle.member_faults.specs.NamePlaces.{AreRowPlaces}
use Rattle.member_faults.specs.RowFacts.{AreAllSo}
use Rattle.fault_sets.proofs.RowSteps.{done}
use Rattle.fault_sets.proofs.TypeNumbers.{next_number, no_number}
use Rattle.member_faults.proofs.declared.with_types.Goals as goal

pub row_facts-requires-clause-started : goal.row_facts-requires-clause-started
row_facts-requires-clause-started c = subst AreStarted (sym c.rows.ensures) c.args.depends.now.lists.now.started

pub row_facts-requires-clause-places : goal.row_facts-requires-clause-places
row_facts-requires-clause-places c = subst (λ rs. AreRowPlaces c.args.depends.now.places.now (map seen_row rs)) (sym c.rows.ensures) c.args.depends.now.placed

pub with_type-requires-clause-so : goal.with_type-requires-clause-so
with_type-requires-clause-so c =
    let heads = c.args.depends.now.heads.now in
    subst (AreAllSo heads (fronts_in c.args.depends.now.lists.now.rows.items) (map seen_row c.args.depends.now.lists.now.rows.items)) (sym c.as_slice.ensures.value)
    (subst (λ rs. AreAllSo heads (fronts_in rs) (map seen_row rs) c.in_ok-facts.facts.items) c.rows.ensures c.in_ok-facts.ensures)

pub loop-number-preserved : goal.loop-number-preserved
loop-number-preserved c =
    let d = c.args.depends.now in
    let heads = d.heads.now in
    let ts = types_with heads (map seen_body d.bodies.now) (lists_of d.lists.now) in
    let n = c.loop-number.number in
    let less : n < length heads = omega (arith, c.count-count.ensures, c.loop-number-test.true) in
    done (type_rows ts n) (flat_map (type_rows ts) (numbers_from (n + 1) (drop (n + 1) heads))) c.loop-number.found c.in_ok-found.found
    (first_from c.args.first (flat_map (type_rows ts) (all_types heads))) c.in_ok-found.ensures
    (c.loop-number.invariant ∙ ap (λ ns. first_from c.loop-number.found (flat_map (type_rows ts) ns)) (next_number heads n n less))

pub returns : goal.returns
returns c =
    let d = c.args.depends.now in
    let heads = d.heads.now in
    let ts = types_with heads (map seen_body d.bodies.now) (lists_of d.lists.now) in
    let n = c.loop-number.number in
    let more : length heads ≤ n = omega (arith, c.count-count.ensures, c.loop-number-test.false) in
    sym (c.loop-number.invariant ∙ ap (λ ns. first_from c.loop-number.found (flat_map (type_rows ts) ns)) (no_number heads n n more))
