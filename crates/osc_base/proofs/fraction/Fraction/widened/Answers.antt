use Rattle.std.proofs.Common.{SFits, refl, rules}
use Rattle.std.specs.Int.{w128}
use Rattle.std.proofs.lemmas.Int.{to_z-of_z}
use Rattle.osc_base.proofs.Fractions.{over_common, stored, stored_pos}
use Rattle.osc_base.proofs.fraction.Fraction.widened.Goals as goal

pub returns-in_err-common : goal.returns-in_err-common
returns-in_err-common c =
    let found = c.in_err-common.ensures in
    let f1 : SFits w128 c.args.self.now.den = search rules in let f2 : SFits w128 c.args.other.now.den = search rules in
    let raw = rw (c.unsigned_abs.ensures.value, c.unsigned_abs-2.ensures.value) at found.1 in let is = simp to_z-of_z at raw in
    (over_common c.args.self.now c.args.other.now found.0 is, rw c.from_residual.ensures (λ small. found.2 small.0))

pub widened_num-requires-clause-multiple : goal.widened_num-requires-clause-multiple
widened_num-requires-clause-multiple c =
    let found = c.in_ok-common.ensures in
    let f1 : SFits w128 c.args.self.now.den = search rules in let f2 : SFits w128 c.args.other.now.den = search rules in
    let raw = rw (c.unsigned_abs.ensures.value, c.unsigned_abs-2.ensures.value) at found.1 in let is = simp to_z-of_z at raw in
    rw found.2.1 is.first

pub widened_num-requires-2-clause-multiple : goal.widened_num-requires-2-clause-multiple
widened_num-requires-2-clause-multiple c =
    let found = c.in_ok-common.ensures in
    let f1 : SFits w128 c.args.self.now.den = search rules in let f2 : SFits w128 c.args.other.now.den = search rules in
    let raw = rw (c.unsigned_abs.ensures.value, c.unsigned_abs-2.ensures.value) at found.1 in let is = simp to_z-of_z at raw in
    rw found.2.1 is.second

pub returns-in_err-widened_num : goal.returns-in_err-widened_num
returns-in_err-widened_num c =
    let found = c.in_ok-common.ensures in
    let f1 : SFits w128 c.args.self.now.den = search rules in let f2 : SFits w128 c.args.other.now.den = search rules in
    let raw = rw (c.unsigned_abs.ensures.value, c.unsigned_abs-2.ensures.value) at found.1 in let is = simp to_z-of_z at raw in
    let large = rw found.2.1 at c.in_err-widened_num.ensures in
    (over_common c.args.self.now c.args.other.now found.0 is, rw c.from_residual-in_err-widened_num.ensures (λ small. large small.1))

pub returns-in_err-widened_num-2 : goal.returns-in_err-widened_num-2
returns-in_err-widened_num-2 c =
    let found = c.in_ok-common.ensures in
    let f1 : SFits w128 c.args.self.now.den = search rules in let f2 : SFits w128 c.args.other.now.den = search rules in
    let raw = rw (c.unsigned_abs.ensures.value, c.unsigned_abs-2.ensures.value) at found.1 in let is = simp to_z-of_z at raw in
    let large = rw found.2.1 at c.in_err-widened_num-2.ensures in
    (over_common c.args.self.now c.args.other.now found.0 is, rw c.from_residual-in_err-widened_num-2.ensures (λ small. large small.2))

pub returns : goal.returns
returns c =
    let found = c.in_ok-common.ensures in
    let f1 : SFits w128 c.args.self.now.den = search rules in let f2 : SFits w128 c.args.other.now.den = search rules in
    let raw = rw (c.unsigned_abs.ensures.value, c.unsigned_abs-2.ensures.value) at found.1 in let is = simp to_z-of_z at raw in
    let left = rw found.2.1 at c.in_ok-widened_num.ensures in
    let right = rw found.2.1 at c.in_ok-widened_num-2.ensures in
    (over_common c.args.self.now c.args.other.now found.0 is, ((found.2.0, left.0, right.0), rw (stored_pos _ _ found.2.0 found.2.1, stored _ _ left, stored _ _ right) refl))
