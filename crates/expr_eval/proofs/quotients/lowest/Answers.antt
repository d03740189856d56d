use Rattle.std.proofs.Common.{◌<◌, ◌/◌, sym, subst, arith}
use Rattle.expr_nodes.proofs.of_osc_base.Divisors.{gcd_above_second, share_above}
use Rattle.expr_eval.proofs.DivisorLaws.{share_stored}
use Rattle.expr_eval.proofs.quotients.lowest.Goals as goal

pub nonzero_div-shared : goal.nonzero_div-shared
nonzero_div-shared c = subst (λ n. 0 < n) (sym c.gcd-divisor.ensures) (gcd_above_second c.unsigned_abs-top.result c.bottom_of-bottom.result c.bottom_of-bottom.ensures.above)

pub nonzero_div-number : goal.nonzero_div-number
nonzero_div-number c = subst (λ n. 0 < n) (sym c.gcd-divisor.ensures) (gcd_above_second c.unsigned_abs-top.result c.bottom_of-bottom.result c.bottom_of-bottom.ensures.above)

pub invariant_of-number : goal.invariant_of-number
invariant_of-number c = record {
  positive = share_stored c.bottom_of-bottom.result c.gcd-divisor.result (omega (arith, c.requires.bottom, c.bottom_of-bottom.ensures.value))
      (subst (λ g. 0 < c.bottom_of-bottom.result / g) (sym c.gcd-divisor.ensures)
      (share_above c.unsigned_abs-top.result c.bottom_of-bottom.result c.bottom_of-bottom.ensures.above));
}
