use Rattle.std.proofs.Common.{◌≡◌, pos, to_z, of_z, arith}
use Rattle.std.proofs.lemmas.Int.{ints}
use Rattle.std.specs.Int.{w128}
use Rattle.linear_sums.proofs.Weights.{least_rule_weight}
use Rattle.linear_sums.proofs.Found.{found_rule, light_rule}
use Rattle.linear_sums.proofs.PickSteps.{room_pick, added_form}
use Rattle.linear_sums.proofs.summing.gather_pick.Goals as goal

pub gather_rule-requires-clause-slots : goal.gather_rule-requires-clause-slots
gather_rule-requires-clause-slots c =
    let found = found_rule c.args.flat.now c.args.pick.rule c.as_slice.result.now c.index-as_slice-pick.result c.requires.flat c.requires.there c.as_slice.ensures c.index-as_slice-pick.is in
    omega (arith, found.slots, c.requires.slots)

pub gather_rule-requires-clause-weight : goal.gather_rule-requires-clause-weight
gather_rule-requires-clause-weight c =
    let found = found_rule c.args.flat.now c.args.pick.rule c.as_slice.result.now c.index-as_slice-pick.result c.requires.flat c.requires.there c.as_slice.ensures c.index-as_slice-pick.is in
    omega (arith, light_rule c.args.flat.now c.args.pick.rule c.index-as_slice-pick.result found c.requires.linear, least_rule_weight c.args.flat.now.bounds.pairs c.index-as_slice-pick.result)

pub gather_rule-requires-clause-room : goal.gather_rule-requires-clause-room
gather_rule-requires-clause-room c =
    let found = found_rule c.args.flat.now c.args.pick.rule c.as_slice.result.now c.index-as_slice-pick.result c.requires.flat c.requires.there c.as_slice.ensures c.index-as_slice-pick.is in
    let k : to_z w128 (of_z w128 c.from.result) ≡ pos c.args.pick.times = omega (arith, ints, c.from.ensures) in
    room_pick c.args.sums.now c.args.pick.times _ _ _ _ k found.weight (least_rule_weight c.args.flat.now.bounds.pairs c.index-as_slice-pick.result) c.requires.room

pub returns : goal.returns
returns c =
    let found = found_rule c.args.flat.now c.args.pick.rule c.as_slice.result.now c.index-as_slice-pick.result c.requires.flat c.requires.there c.as_slice.ensures c.index-as_slice-pick.is in
    let k : to_z w128 (of_z w128 c.from.result) ≡ pos c.args.pick.times = omega (arith, ints, c.from.ensures) in
    added_form c.args.sums.now c.gather_rule.new.sums _ _ _ _ k found.form c.gather_rule.ensures
