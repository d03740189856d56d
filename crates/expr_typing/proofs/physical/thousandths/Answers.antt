use Rattle.std.proofs.Common.{◌<◌, ◌/◌, refl, sym, subst, arith}
use Rattle.expr_nodes.proofs.of_osc_base.Divisors.{gcd_above_second, share_above, share_stored}
use Rattle.expr_typing.proofs.physical.thousandths.Goals as goal

pub nonzero_div-shared : goal.nonzero_div-shared
nonzero_div-shared c = subst (λ n. 0 < n) (sym c.gcd-divisor.ensures) (gcd_above_second c.from-magnitude.result 1000 (omega arith))

pub nonzero_div-result : goal.nonzero_div-result
nonzero_div-result c = subst (λ n. 0 < n) (sym c.gcd-divisor.ensures) (gcd_above_second c.from-magnitude.result 1000 (omega arith))

pub invariant_of-result : goal.invariant_of-result
invariant_of-result c = record {
  positive = share_stored 1000 c.gcd-divisor.result 3 (omega arith) refl
      (subst (λ g. 0 < 1000 / g) (sym c.gcd-divisor.ensures) (share_above c.from-magnitude.result 1000 (omega arith)));
}
