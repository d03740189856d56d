use Rattle.std.proofs.Common.{◌≡◌, to_z, of_z, arith}
use Rattle.std.proofs.lemmas.Int.{ints}
use Rattle.std.specs.Int.{w128}
use Rattle.linear_sums.proofs.Found.{found_rule}
use Rattle.linear_sums.proofs.PickSteps.{taken_form}
use Rattle.linear_sums.proofs.summing.take_pick.Goals as goal

pub take_rule-requires-clause-slots : goal.take_rule-requires-clause-slots
take_rule-requires-clause-slots g c =
    let found = found_rule c.args.flat.now c.args.pick.rule c.as_slice.result.now c.index-as_slice-pick.result c.requires.flat c.requires.there c.as_slice.ensures c.index-as_slice-pick.is in
    omega (arith, found.slots, c.requires.slots)

pub returns : goal.returns
returns g c =
    let found = found_rule c.args.flat.now c.args.pick.rule c.as_slice.result.now c.index-as_slice-pick.result c.requires.flat c.requires.there c.as_slice.ensures c.index-as_slice-pick.is in
    let r : to_z w128 (of_z w128 c.take_rule.result) ≡ c.take_rule.result = omega (arith, ints) in
    rw r (taken_form (g.E.Ends.ends c.args.ends.now) c.args.sums.now c.take_rule.new.sums _ _ _ found.form c.take_rule.ensures)
