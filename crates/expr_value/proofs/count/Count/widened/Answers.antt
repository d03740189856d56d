use Rattle.std.proofs.Common.{◌/◌, ◌*ℤ◌, pos, SFits, rules, arith}
use Rattle.std.specs.Int.{w128}
use Rattle.std.proofs.lemmas.Int.{ints, to_z-of_z}
use Rattle.expr_value.proofs.Bounds.{share_small, share_is, wide_within, wide_fits}
use Rattle.expr_value.proofs.count.Count.widened.Goals as goal

pub overflow_cast-result : goal.overflow_cast-result
overflow_cast-result c = omega (arith, ints, share_small c.args.common c.args.self.now.size.scale c.requires.common)

pub overflow_mul-result : goal.overflow_mul-result
overflow_mul-result c =
    let x : SFits w128 c.args.self.now.count = search rules in
    simp (to_z-of_z, share_is c.args.common c.args.self.now.size.scale c.requires.common)
    (wide_fits c.args.self.now.count (c.args.common / c.args.self.now.size.scale) c.args.self.now.size.reach c.args.self.now.within c.requires.reach)

pub returns-clause-same : goal.returns-clause-same
returns-clause-same c =
    let x : SFits w128 c.args.self.now.count = search rules in
    let z : SFits w128 (c.args.self.now.count *ℤ pos (c.args.common / c.args.self.now.size.scale)) =
    wide_fits c.args.self.now.count (c.args.common / c.args.self.now.size.scale) c.args.self.now.size.reach c.args.self.now.within c.requires.reach in
    simp (to_z-of_z, share_is c.args.common c.args.self.now.size.scale c.requires.common)

pub returns-clause-within : goal.returns-clause-within
returns-clause-within c =
    let x : SFits w128 c.args.self.now.count = search rules in
    let z : SFits w128 (c.args.self.now.count *ℤ pos (c.args.common / c.args.self.now.size.scale)) =
    wide_fits c.args.self.now.count (c.args.common / c.args.self.now.size.scale) c.args.self.now.size.reach c.args.self.now.within c.requires.reach in
    simp (to_z-of_z, share_is c.args.common c.args.self.now.size.scale c.requires.common)
    (wide_within c.args.self.now.count (c.args.common / c.args.self.now.size.scale) c.args.self.now.size.reach c.args.self.now.within)
