use Rattle.std.proofs.Common.{SFits, refl, rules}
use Rattle.std.specs.Int.{w128}
use Rattle.std.proofs.lemmas.Int.{to_z-of_z}
use Rattle.osc_base.proofs.Fractions.{stored}
use Rattle.osc_base.proofs.Integers.{product_above}
use Rattle.osc_base.proofs.fraction.Fraction.times.Goals as goal

pub invariant_of-result : goal.invariant_of-result
invariant_of-result c =
    let f1 : SFits w128 c.args.self.now.den = search rules in let f2 : SFits w128 c.args.other.now.den = search rules in
    let den = simp to_z-of_z at c.in_ok-product-2.ensures in
    record { positive = rw (stored _ _ den) (product_above c.args.self.now.den c.args.other.now.den c.args.self.now.positive c.args.other.now.positive) }

pub returns-clause-exact : goal.returns-clause-exact
returns-clause-exact c =
    let f1 : SFits w128 c.args.self.now.num = search rules in let f2 : SFits w128 c.args.other.now.num = search rules in
    let f3 : SFits w128 c.args.self.now.den = search rules in let f4 : SFits w128 c.args.other.now.den = search rules in
    let num = simp to_z-of_z at c.in_ok-product.ensures in let den = simp to_z-of_z at c.in_ok-product-2.ensures in
    record { exactly = ((λ _. (num.0, den.0)), λ _. refl); parts = (stored _ _ num, stored _ _ den) }
