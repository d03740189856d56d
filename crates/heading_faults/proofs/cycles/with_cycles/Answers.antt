use Rattle.std.proofs.Common.{◌∙◌, ◌+◌, ◌<◌, ◌≤◌, [], ◌∷◌, ap, sym, drop, length, map, arith}
use Rattle.type_members.specs.osc_base.FaultRows.{first_from}
use Rattle.type_members.specs.type_heads.Bodied.{seen_body}
use Rattle.type_members.specs.type_heads.Table.{all_types, numbers_from}
use Rattle.type_members.specs.type_heads.HeadingFaults.{cycle_row}
use Rattle.fault_sets.proofs.RowSteps.{done}
use Rattle.fault_sets.proofs.TypeNumbers.{next_number, no_number}
use Rattle.heading_faults.proofs.cycles.with_cycles.Goals as goal

pub loop-number-preserved : goal.loop-number-preserved
loop-number-preserved c =
    let heads = c.args.held.now.heads.now in
    let bodies = map seen_body c.args.held.now.bodies.now in
    let n = c.loop-number.number in
    let less : n < length heads = omega (arith, c.count-count.ensures, c.loop-number-test.true) in
    done (cycle_row heads bodies n ∷ []) (map (cycle_row heads bodies) (numbers_from (n + 1) (drop (n + 1) heads))) c.loop-number.found c.in_ok-found.found
    (first_from c.args.first (map (cycle_row heads bodies) (all_types heads))) c.in_ok-found.ensures
    (c.loop-number.invariant ∙ ap (λ ns. first_from c.loop-number.found (map (cycle_row heads bodies) ns)) (next_number heads n n less))

pub returns : goal.returns
returns c =
    let heads = c.args.held.now.heads.now in
    let bodies = map seen_body c.args.held.now.bodies.now in
    let n = c.loop-number.number in
    let more : length heads ≤ n = omega (arith, c.count-count.ensures, c.loop-number-test.false) in
    sym (c.loop-number.invariant ∙ ap (λ ns. first_from c.loop-number.found (map (cycle_row heads bodies) ns)) (no_number heads n n more))
