use Rattle.std.proofs.Common.{◌≡◌, ◌∙◌, ap₂, ◌<ℤ◌, ◌+ℤ◌, ◌-ℤ◌, pos, to_z, of_z, arith, rules}
use Rattle.std.proofs.lemmas.Int.{ints}
use Rattle.std.specs.Int.{w128}
use Rattle.search_plans.specs.Steps.{multiple, middle}
use Rattle.search_plans.proofs.Splits.{placed_low, placed_high}
use Rattle.search_plans.proofs.near.shared.Goals as goal

pub sided-requires-clause-low : goal.sided-requires-clause-low
sided-requires-clause-low c =
    let same : to_z w128 (of_z w128 c.between.result) ≡ c.between.result = search rules in
    let first : to_z w128 (of_z w128 c.args.first) ≡ c.args.first = search rules in
    let last : to_z w128 (of_z w128 c.args.last) ≡ c.args.last = search rules in
    let ordered : c.args.first <ℤ c.args.last = omega (arith, ints, c.if-first-last.true) in
    let at = c.between.ensures ∙ ap₂ (λ a b. multiple c.args.step (middle a b +ℤ pos 1) -ℤ pos 1) first last in
    rw same (placed_low c.args.step c.args.draw.low c.args.first c.args.last c.between.result ordered c.requires.low at)

pub sided-requires-clause-high : goal.sided-requires-clause-high
sided-requires-clause-high c =
    let same : to_z w128 (of_z w128 c.between.result) ≡ c.between.result = search rules in
    let first : to_z w128 (of_z w128 c.args.first) ≡ c.args.first = search rules in
    let last : to_z w128 (of_z w128 c.args.last) ≡ c.args.last = search rules in
    let ordered : c.args.first <ℤ c.args.last = omega (arith, ints, c.if-first-last.true) in
    let at = c.between.ensures ∙ ap₂ (λ a b. multiple c.args.step (middle a b +ℤ pos 1) -ℤ pos 1) first last in
    rw same (placed_high c.args.step c.args.draw.high c.args.first c.args.last c.between.result ordered c.requires.high at)
