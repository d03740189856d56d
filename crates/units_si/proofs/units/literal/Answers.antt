use Rattle.std.proofs.Common.{SFits, Some, rules}
use Rattle.std.specs.Int.{w128}
use Rattle.std.proofs.lemmas.Int.{to_z-of_z}
use Rattle.osc_base.specs.Number.{IsNearestThousandth}
use Rattle.units_si.specs.Units.{literal_value}
use Rattle.units_si.proofs.Parts.{rounds, some_then}
use Rattle.units_si.proofs.units.literal.Goals as goal

pub returns-clause-exact : goal.returns-clause-exact
returns-clause-exact c =
    let f1 : SFits w128 c.in_ok-nearest_thousandth.field-0 = search rules in
    let slot = simp to_z-of_z at c.slot_value.ensures in
    let scaled = c.in_ok-scaled.ensures in let moved = c.in_ok-moved.ensures in let rounded = c.in_ok-nearest_thousandth.ensures in
    (Some c.in_ok-scaled.scaled, scaled.exact, (Some c.in_ok-moved.moved, moved.exact, (Some c.in_ok-nearest_thousandth.field-0, rounded.exact, slot)))

pub returns-clause-value : goal.returns-clause-value
returns-clause-value c =
    let f1 : SFits w128 c.in_ok-nearest_thousandth.field-0 = search rules in
    let slot = simp to_z-of_z at c.slot_value.ensures in
    let scaled = c.in_ok-scaled.ensures in let moved = c.in_ok-moved.ensures in let rounded = c.in_ok-nearest_thousandth.ensures in
    some_then c.slot_value.result _ c.in_ok-nearest_thousandth.field-0 (λ count. IsNearestThousandth (literal_value c.args.number.now c.args.unit.now) count) slot
    (rounds c.args.number.now c.args.unit.now c.in_ok-scaled.scaled c.in_ok-moved.moved c.in_ok-nearest_thousandth.field-0 scaled.exact.parts moved.value rounded.value)
