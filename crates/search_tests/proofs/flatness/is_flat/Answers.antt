use Rattle.std.proofs.Common.{◌≡◌, refl, arith, ap, length, subst, List}
use Rattle.box_eval.specs.declared.rule.Rule.{Rule}
use Rattle.box_eval.specs.declared.bounds.Pair.{Pair}
use Rattle.search_tests.specs.Small.{AreSmall, AreSmallRules}
use Rattle.search_tests.proofs.Flats.{small_flat}
use Rattle.search_tests.proofs.flatness.is_flat.Goals as goal

pub returns-then-are_small : goal.returns-then-are_small
returns-then-are_small c says =
    let pairs : c.as_slice-pairs.result.now ≡ c.args.flat.now.bounds.pairs = c.as_slice-pairs.ensures in
    let rules : c.as_slice-rules.result.now ≡ c.args.flat.now.rules = c.as_slice-rules.ensures in
    let small : AreSmallRules c.args.flat.now.rules (length c.as_slice-pairs.result.now) = subst (λ (rs : List Rule). AreSmallRules rs (length c.as_slice-pairs.result.now)) rules (c.are_small_rules.ensures says) in
    small_flat c.args.flat.now
    (omega (arith, c.if-pairs-gt1000000.false, ap (λ (ps : List Pair). length ps) pairs))
    (omega (arith, c.if-rules-gt1000000.false, ap (λ (rs : List Rule). length rs) rules))
    (subst AreSmall pairs (c.if-are_small.ensures refl))
    (subst (λ (ps : List Pair). AreSmallRules c.args.flat.now.rules (length ps)) pairs small)
