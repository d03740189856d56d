use Rattle.std.proofs.Common.{◌≡◌, to_z, of_z, arith}
use Rattle.std.proofs.lemmas.Int.{ints}
use Rattle.std.specs.Int.{w128}
use Rattle.linear_sums.proofs.FacingTests.{none_apart, none_signed, same_sign}
use Rattle.linear_sums.proofs.pairs.pair_of.Goals.{else-c-d-via-then-c-d+then-c-d-2+else-c-d-3, else-c-d-via-then-c-d+else-c-d-2, else-c-d-via-else-c-d}
use Rattle.linear_sums.proofs.pairs.pair_of.Goals as goal

pub returns-else-c-d-clause-found : goal.returns-else-c-d-clause-found
returns-else-c-d-clause-found c = elim c.else-c-d.branch [
  | else-c-d-via-then-c-d+then-c-d-2+else-c-d-3 w ↦
      let p : to_z w128 (of_z w128 c.args.c.now.first) ≡ c.args.c.now.first = omega (arith, ints) in
      let q : to_z w128 (of_z w128 c.args.d.now.first) ≡ c.args.d.now.first = omega (arith, ints) in
      none_signed c.args.flat.now c.args.c.now c.args.d.now c.requires.first c.requires.second (same_sign _ _ _ _ p q w.if-c-d-3.false)
  | else-c-d-via-then-c-d+else-c-d-2 w ↦ none_apart c.args.flat.now c.args.c.now c.args.d.now c.requires.first c.requires.second (λ one other. w.if-c-d-2.false other)
  | else-c-d-via-else-c-d w ↦ none_apart c.args.flat.now c.args.c.now c.args.d.now c.requires.first c.requires.second (λ one other. w.if-c-d.false one)
]
