use Rattle.std.proofs.Common.{◌<◌, ◌∙◌, sym, ap, subst, ◌/◌}
use Rattle.std.specs.Prelude.{◌^◌}
use Rattle.expr_nodes.proofs.of_osc_base.Divisors.{gcd_above_second, share_above, power_above, share_stored}
use Rattle.expr_typing.proofs.literals.decimal.Goals as goal

pub nonzero_div-result : goal.nonzero_div-result
nonzero_div-result c = subst (λ n. 0 < n) (sym c.gcd-divisor.ensures) (gcd_above_second c.from-digits.result c.pow-scale.result (power_above c.pow-scale.result c.from.result c.pow-scale.ensures))

pub nonzero_div-result-2 : goal.nonzero_div-result-2
nonzero_div-result-2 c = subst (λ n. 0 < n) (sym c.gcd-divisor.ensures) (gcd_above_second c.from-digits.result c.pow-scale.result (power_above c.pow-scale.result c.from.result c.pow-scale.ensures))

pub invariant_of-result : goal.invariant_of-result
invariant_of-result c = record {
  positive = share_stored c.pow-scale.result c.gcd-divisor.result c.args.places c.requires (c.pow-scale.ensures ∙ ap (λ n. 10 ^ n) c.from.ensures)
      (subst (λ g. 0 < c.pow-scale.result / g) (sym c.gcd-divisor.ensures) (share_above c.from-digits.result c.pow-scale.result (power_above c.pow-scale.result c.from.result c.pow-scale.ensures)));
}
