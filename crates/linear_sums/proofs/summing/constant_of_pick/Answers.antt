use Rattle.std.proofs.Common.{◌≡◌, ◌∙◌, sym, ap, ℤ, pos, ◌+ℤ◌, ◌*ℤ◌, FitsSigned, to_z, of_z, arith}
use Rattle.std.proofs.lemmas.Int.{ints}
use Rattle.std.specs.Int.{w128}
use Rattle.std.specs.Prelude.{unsigned_abs}
use Rattle.linear_sums.specs.Linear.{RuleForm}
use Rattle.linear_sums.proofs.Weights.{least_rule_weight}
use Rattle.linear_sums.proofs.Found.{found_rule, light_rule}
use Rattle.linear_sums.proofs.PickSteps.{constant_small}
use Rattle.linear_sums.proofs.Gathering.{wrapped_product}
use Rattle.linear_sums.proofs.summing.constant_of_pick.Goals as goal

pub constant_and_gap-requires : goal.constant_and_gap-requires
constant_and_gap-requires c =
    let found = found_rule c.args.flat.now c.args.pick.rule c.as_slice.result.now c.index-as_slice-pick.result c.requires.flat c.requires.there c.as_slice.ensures c.index-as_slice-pick.is in
    omega (arith, light_rule c.args.flat.now c.args.pick.rule c.index-as_slice-pick.result found c.requires.linear, least_rule_weight c.args.flat.now.bounds.pairs c.index-as_slice-pick.result)

pub overflow_mul-result : goal.overflow_mul-result
overflow_mul-result c =
    let found = found_rule c.args.flat.now c.args.pick.rule c.as_slice.result.now c.index-as_slice-pick.result c.requires.flat c.requires.there c.as_slice.ensures c.index-as_slice-pick.is in
    let k : to_z w128 (of_z w128 c.from.result) ≡ pos c.args.pick.times = omega (arith, ints, c.from.ensures) in
    let r : to_z w128 (of_z w128 c.constant_and_gap.result) ≡ c.constant_and_gap.result = omega (arith, ints) in
    let s = constant_small c.args.flat.now c.args.pick.rule c.args.pick.times c.index-as_slice-pick.result c.constant_and_gap.result found c.constant_and_gap.ensures in
    let f : FitsSigned w128 (pos c.args.pick.times *ℤ c.constant_and_gap.result) = omega (arith, ints, s, c.requires.weight) in
    rw (k, r) f

pub returns-clause-value : goal.returns-clause-value
returns-clause-value c =
    let found = found_rule c.args.flat.now c.args.pick.rule c.as_slice.result.now c.index-as_slice-pick.result c.requires.flat c.requires.there c.as_slice.ensures c.index-as_slice-pick.is in
    let k : to_z w128 (of_z w128 c.from.result) ≡ pos c.args.pick.times = omega (arith, ints, c.from.ensures) in
    let r : to_z w128 (of_z w128 c.constant_and_gap.result) ≡ c.constant_and_gap.result = omega (arith, ints) in
    let s = constant_small c.args.flat.now c.args.pick.rule c.args.pick.times c.index-as_slice-pick.result c.constant_and_gap.result found c.constant_and_gap.ensures in
    let f : FitsSigned w128 (pos c.args.pick.times *ℤ c.constant_and_gap.result) = omega (arith, ints, s, c.requires.weight) in
    wrapped_product (pos c.args.pick.times) _ c.constant_and_gap.result _ k r f
    ∙ ap (λ (n : ℤ). pos c.args.pick.times *ℤ n) (c.constant_and_gap.ensures ∙ sym (ap (λ (m : RuleForm). m.constant +ℤ m.gap) found.form))

pub returns-clause-small : goal.returns-clause-small
returns-clause-small c =
    let found = found_rule c.args.flat.now c.args.pick.rule c.as_slice.result.now c.index-as_slice-pick.result c.requires.flat c.requires.there c.as_slice.ensures c.index-as_slice-pick.is in
    let k : to_z w128 (of_z w128 c.from.result) ≡ pos c.args.pick.times = omega (arith, ints, c.from.ensures) in
    let r : to_z w128 (of_z w128 c.constant_and_gap.result) ≡ c.constant_and_gap.result = omega (arith, ints) in
    let s = constant_small c.args.flat.now c.args.pick.rule c.args.pick.times c.index-as_slice-pick.result c.constant_and_gap.result found c.constant_and_gap.ensures in
    let f : FitsSigned w128 (pos c.args.pick.times *ℤ c.constant_and_gap.result) = omega (arith, ints, s, c.requires.weight) in
    omega (arith, s, ap unsigned_abs (wrapped_product (pos c.args.pick.times) _ c.constant_and_gap.result _ k r f))
