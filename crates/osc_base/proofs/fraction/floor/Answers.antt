use Rattle.std.proofs.Common.{refl}
use Rattle.std.proofs.lemmas.Int.{to_z-of_z}
use Rattle.std.specs.Int.{w128}
use Rattle.osc_base.proofs.Numbers.{floor_of}
use Rattle.osc_base.proofs.fraction.floor.Goals as goal

pub returns : goal.returns
returns c = rw (to_z-of_z w128 c.div_euclid.result (record { sfits = c.div_euclid.type_inv }))
    (floor_of c.div_euclid.result c.args.num c.args.den
    (rw (c.div_euclid.ensures, to_z-of_z w128 c.args.num c.ranges.num, to_z-of_z w128 c.args.den c.ranges.den) refl) c.requires)
