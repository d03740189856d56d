use Rattle.std.proofs.Common.{◌≤◌, ◌*ℤ◌, SFits, sym, subst, rules, unsigned_abs}
use Rattle.std.specs.Int.{w128}
use Rattle.std.proofs.lemmas.Int.{to_z-of_z}
use Rattle.expr_value.proofs.Bounds.{product_within, product_fits}
use Rattle.expr_value.proofs.count.Count.times.Goals as goal

pub overflow_mul-result : goal.overflow_mul-result
overflow_mul-result c =
    let x : SFits w128 c.args.self.now.count = search rules in let y : SFits w128 c.args.other.now.count = search rules in
    simp to_z-of_z (product_fits c.args.self.now.count c.args.other.now.count c.args.self.now.size.reach c.args.other.now.size.reach c.args.size.reach
    c.args.self.now.within c.args.other.now.within c.requires.reach c.args.size.small_reach)

pub invariant_of-result : goal.invariant_of-result
invariant_of-result c =
    let x : SFits w128 c.args.self.now.count = search rules in let y : SFits w128 c.args.other.now.count = search rules in
    let z : SFits w128 (c.args.self.now.count *ℤ c.args.other.now.count) = product_fits c.args.self.now.count c.args.other.now.count c.args.self.now.size.reach c.args.other.now.size.reach c.args.size.reach
    c.args.self.now.within c.args.other.now.within c.requires.reach c.args.size.small_reach in
    record {
      within = simp to_z-of_z (subst (λ r. unsigned_abs (c.args.self.now.count *ℤ c.args.other.now.count) ≤ r) (sym c.requires.reach)
          (product_within c.args.self.now.count c.args.other.now.count c.args.self.now.size.reach c.args.other.now.size.reach c.args.self.now.within c.args.other.now.within));
    }

pub returns-clause-same : goal.returns-clause-same
returns-clause-same c =
    let x : SFits w128 c.args.self.now.count = search rules in let y : SFits w128 c.args.other.now.count = search rules in
    let z : SFits w128 (c.args.self.now.count *ℤ c.args.other.now.count) = product_fits c.args.self.now.count c.args.other.now.count c.args.self.now.size.reach c.args.other.now.size.reach c.args.size.reach
    c.args.self.now.within c.args.other.now.within c.requires.reach c.args.size.small_reach in
    simp to_z-of_z
