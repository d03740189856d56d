use Rattle.std.proofs.Common.{◌≡◌, ◌∙◌, ap, subst, to_z, of_z, arith}
use Rattle.std.proofs.lemmas.Int.{ints}
use Rattle.std.specs.Int.{w128}
use Rattle.std.specs.Prelude.{unsigned_abs}
use Rattle.linear_sums.specs.Multiple.{IsLeast, NoLeast}
use Rattle.linear_sums.proofs.FacingTests.{are_multiples, moved_sum, moved_test, no_least, not_at_one, not_at_other}
use Rattle.linear_sums.proofs.pairs.multiples.Goals.{else-cancel-via-then-cancel+else-cancel-2, else-cancel-via-else-cancel}
use Rattle.linear_sums.proofs.pairs.multiples.Goals as goal

pub returns-then-cancel-2 : goal.returns-then-cancel-2
returns-then-cancel-2 c =
    let p : to_z w128 (of_z w128 c.args.c.now.first) ≡ c.args.c.now.first = omega (arith, ints) in
    let q : to_z w128 (of_z w128 c.args.d.now.first) ≡ c.args.d.now.first = omega (arith, ints) in
    let v : to_z w128 (of_z w128 c.args.c.now.second) ≡ c.args.c.now.second = omega (arith, ints) in
    let z : to_z w128 (of_z w128 c.args.d.now.second) ≡ c.args.d.now.second = omega (arith, ints) in
    let is = subst (λ n. IsLeast n (unsigned_abs c.args.d.now.first) c.in-Some.times) (c.unsigned_abs.ensures.value ∙ ap unsigned_abs p)
    (subst (λ n. IsLeast c.unsigned_abs.result n c.in-Some.times) (c.unsigned_abs-2.ensures.value ∙ ap unsigned_abs q) c.in-Some.ensures) in
    are_multiples c.args.c.now c.args.d.now c.in-Some.times is (moved_sum c.in-Some.times.first c.in-Some.times.second _ _ _ _ p q (c.cancel.ensures.sound c.if-cancel.true))
    (moved_sum c.in-Some.times.first c.in-Some.times.second _ _ _ _ v z (c.cancel-then-cancel.ensures.sound c.if-cancel-2.true))

pub returns-else-cancel : goal.returns-else-cancel
returns-else-cancel c =
    let p : to_z w128 (of_z w128 c.args.c.now.first) ≡ c.args.c.now.first = omega (arith, ints) in
    let q : to_z w128 (of_z w128 c.args.d.now.first) ≡ c.args.d.now.first = omega (arith, ints) in
    let is = subst (λ n. IsLeast n (unsigned_abs c.args.d.now.first) c.in-Some.times) (c.unsigned_abs.ensures.value ∙ ap unsigned_abs p)
    (subst (λ n. IsLeast c.unsigned_abs.result n c.in-Some.times) (c.unsigned_abs-2.ensures.value ∙ ap unsigned_abs q) c.in-Some.ensures) in
    elim c.else-cancel.branch [
      | else-cancel-via-then-cancel+else-cancel-2 w ↦
          let v : to_z w128 (of_z w128 c.args.c.now.second) ≡ c.args.c.now.second = omega (arith, ints) in
          let z : to_z w128 (of_z w128 c.args.d.now.second) ≡ c.args.d.now.second = omega (arith, ints) in
          not_at_other c.args.c.now c.args.d.now c.in-Some.times is c.requires.first w.cancel-then-cancel.result w.if-cancel-2.false
          (moved_test c.in-Some.times.first c.in-Some.times.second _ _ _ _ w.cancel-then-cancel.result v z w.cancel-then-cancel.ensures.complete)
      | else-cancel-via-else-cancel w ↦ not_at_one c.args.c.now c.args.d.now c.in-Some.times is c.requires.first c.cancel.result w.if-cancel.false
          (moved_test c.in-Some.times.first c.in-Some.times.second _ _ _ _ c.cancel.result p q c.cancel.ensures.complete)
    ]

pub returns-in-None : goal.returns-in-None
returns-in-None c =
    let p : to_z w128 (of_z w128 c.args.c.now.first) ≡ c.args.c.now.first = omega (arith, ints) in
    let q : to_z w128 (of_z w128 c.args.d.now.first) ≡ c.args.d.now.first = omega (arith, ints) in
    no_least c.args.c.now c.args.d.now (subst (λ n. NoLeast n (unsigned_abs c.args.d.now.first)) (c.unsigned_abs.ensures.value ∙ ap unsigned_abs p)
    (subst (λ n. NoLeast c.unsigned_abs.result n) (c.unsigned_abs-2.ensures.value ∙ ap unsigned_abs q) c.in-None.ensures))
