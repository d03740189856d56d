use Rattle.std.proofs.Common.{SFits, refl, rules}
use Rattle.std.specs.Int.{w128}
use Rattle.std.proofs.lemmas.Int.{to_z-of_z}
use Rattle.osc_base.proofs.Numbers.{nearest_is}
use Rattle.osc_base.proofs.fraction.Fraction.nearest_thousandth.Goals as goal

pub returns-clause-exact : goal.returns-clause-exact
returns-clause-exact c =
    let f1 : SFits w128 c.args.self.now.num = search rules in let f2 : SFits w128 c.args.self.now.den = search rules in
    let f3 : SFits w128 c.floor.result = record { sfits = c.floor.type_inv } in
    let f4 : SFits w128 c.in_ok-product.field-0 = search rules in let f5 : SFits w128 c.in_ok-raised.raised = search rules in let f6 : SFits w128 c.in_ok-scale.scale = search rules in
    let doubled = simp to_z-of_z at c.in_ok-product.ensures in
    let raw = simp to_z-of_z at c.in_ok-raised.ensures in let raised = simp doubled.1 at raw in
    let scale = simp to_z-of_z at c.in_ok-scale.ensures in
    let raw_floor = simp to_z-of_z at c.floor.ensures in let floor = simp (raised.1, scale.1) at raw_floor in
    rw (to_z-of_z w128 c.floor.result f3) (record { exactly = ((λ _. (doubled.0, raised.0, scale.0)), λ _. refl); parts = floor })

pub returns-clause-value : goal.returns-clause-value
returns-clause-value c =
    let f1 : SFits w128 c.args.self.now.num = search rules in let f2 : SFits w128 c.args.self.now.den = search rules in
    let f3 : SFits w128 c.floor.result = record { sfits = c.floor.type_inv } in
    let f4 : SFits w128 c.in_ok-product.field-0 = search rules in let f5 : SFits w128 c.in_ok-raised.raised = search rules in let f6 : SFits w128 c.in_ok-scale.scale = search rules in
    let doubled = simp to_z-of_z at c.in_ok-product.ensures in
    let raw = simp to_z-of_z at c.in_ok-raised.ensures in let raised = simp doubled.1 at raw in
    let scale = simp to_z-of_z at c.in_ok-scale.ensures in
    let raw_floor = simp to_z-of_z at c.floor.ensures in let floor = simp (raised.1, scale.1) at raw_floor in
    rw (to_z-of_z w128 c.floor.result f3) (nearest_is c.args.self.now.num c.args.self.now.den c.floor.result floor)
