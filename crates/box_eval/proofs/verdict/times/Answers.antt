use Rattle.std.proofs.Common.{◌≡◌, ap₂, arith, to_z, of_z}
use Rattle.std.proofs.lemmas.Int.{ints}
use Rattle.std.specs.Int.{w128}
use Rattle.box_eval.proofs.Numbers.{span, times_fit}
use Rattle.box_eval.proofs.verdict.times.Goals as goal

pub product-r-requires : goal.product-r-requires
product-r-requires c =
    let high : to_z w128 (of_z w128 c.args.a.greatest) ≡ c.args.a.greatest = omega (arith, ints) in
    let low : to_z w128 (of_z w128 c.args.b.least) ≡ c.args.b.least = omega (arith, ints) in
    rw (high, low) (times_fit c.args.a c.args.b c.requires).third

pub product-s-requires : goal.product-s-requires
product-s-requires c =
    let first : to_z w128 (of_z w128 c.args.a.greatest) ≡ c.args.a.greatest = omega (arith, ints) in
    let second : to_z w128 (of_z w128 c.args.b.greatest) ≡ c.args.b.greatest = omega (arith, ints) in
    rw (first, second) (times_fit c.args.a c.args.b c.requires).fourth

pub returns : goal.returns
returns c =
    let a : to_z w128 (of_z w128 c.args.a.least) ≡ c.args.a.least = omega (arith, ints) in
    let b : to_z w128 (of_z w128 c.args.a.greatest) ≡ c.args.a.greatest = omega (arith, ints) in
    let d : to_z w128 (of_z w128 c.args.b.least) ≡ c.args.b.least = omega (arith, ints) in
    let e : to_z w128 (of_z w128 c.args.b.greatest) ≡ c.args.b.greatest = omega (arith, ints) in
    let p : to_z w128 (of_z w128 c.product-p.result) ≡ c.product-p.result = omega (arith, ints) in
    let q : to_z w128 (of_z w128 c.product-q.result) ≡ c.product-q.result = omega (arith, ints) in
    let r : to_z w128 (of_z w128 c.product-r.result) ≡ c.product-r.result = omega (arith, ints) in
    let s : to_z w128 (of_z w128 c.product-s.result) ≡ c.product-s.result = omega (arith, ints) in
    let l : to_z w128 (of_z w128 c.least_of_four.result) ≡ c.least_of_four.result = omega (arith, ints) in
    let g : to_z w128 (of_z w128 c.greatest_of_four.result) ≡ c.greatest_of_four.result = omega (arith, ints) in
    ap₂ span (cc) (cc)
