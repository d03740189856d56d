use Rattle.std.proofs.Common.{◌≡◌, ◌∙◌, ap₂, ℤ, ◌*ℤ◌, arith, to_z, of_z}
use Rattle.std.proofs.lemmas.Int.{ints}
use Rattle.std.specs.Prelude.{unsigned_abs}
use Rattle.std.specs.Int.{w128, int_min}
use Rattle.linear_sums.proofs.Taking.{first_product, second_product, small_fits, small_wraps}
use Rattle.linear_sums.proofs.least.lesser.Goals as goal

pub overflow_mul-first : goal.overflow_mul-first
overflow_mul-first c =
    let v : to_z w128 (of_z w128 c.args.number) ≡ c.args.number = omega (arith, ints) in
    let n : to_z w128 (of_z w128 c.from.result) ≡ c.args.low = omega (arith, ints, c.from.ensures) in
    rw (v, n) (small_fits (c.args.number *ℤ c.args.low) (first_product c.args.number c.args.low (unsigned_abs c.args.high) c.requires))

pub overflow_mul-second : goal.overflow_mul-second
overflow_mul-second c =
    let v : to_z w128 (of_z w128 c.args.number) ≡ c.args.number = omega (arith, ints) in
    let n : to_z w128 (of_z w128 c.from-2.result) ≡ c.args.high = omega (arith, ints, c.from-2.ensures) in
    rw (v, n) (small_fits (c.args.number *ℤ c.args.high) (second_product c.args.number c.args.high (unsigned_abs c.args.low) c.requires))

pub returns : goal.returns
returns c =
    let v : to_z w128 (of_z w128 c.args.number) ≡ c.args.number = omega (arith, ints) in
    let n : to_z w128 (of_z w128 c.from.result) ≡ c.args.low = omega (arith, ints, c.from.ensures) in
    let m : to_z w128 (of_z w128 c.from-2.result) ≡ c.args.high = omega (arith, ints, c.from-2.ensures) in
    let r : to_z w128 (of_z w128 c.min.result) ≡ c.min.result = omega (arith, ints) in
    let p = ap₂ (λ (x y : ℤ). to_z w128 (of_z w128 (x *ℤ y))) v n ∙ small_wraps (c.args.number *ℤ c.args.low) (first_product c.args.number c.args.low (unsigned_abs c.args.high) c.requires) in
    let q = ap₂ (λ (x y : ℤ). to_z w128 (of_z w128 (x *ℤ y))) v m ∙ small_wraps (c.args.number *ℤ c.args.high) (second_product c.args.number c.args.high (unsigned_abs c.args.low) c.requires) in
    r ∙ c.min.ensures.value ∙ ap₂ (λ (x y : ℤ). int_min x y) p q
