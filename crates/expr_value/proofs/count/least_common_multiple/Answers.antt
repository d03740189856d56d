use Rattle.std.proofs.Common.{◌∙◌, sym, ap, subst, ◌*◌, ◌/◌, ◌<◌, Fits, arith}
use Rattle.std.specs.Int.{w128}
use Rattle.expr_nodes.proofs.of_osc_base.Divisors.{gcd_above, lcm_is}
use Rattle.expr_value.proofs.count.least_common_multiple.Goals as goal

pub nonzero_div-result : goal.nonzero_div-result
nonzero_div-result c = subst (λ n. 0 < n) (sym c.gcd.ensures) (gcd_above c.args.a c.args.b c.requires.first)

pub overflow_mul-result : goal.overflow_mul-result
overflow_mul-result c =
    let is = ap (λ g. c.args.a * (c.args.b / g)) c.gcd.ensures ∙ sym (lcm_is c.args.a c.args.b) in
    subst (λ n. Fits w128 n) (sym is) (omega (arith, c.requires.small))

pub returns : goal.returns
returns c = ap (λ g. c.args.a * (c.args.b / g)) c.gcd.ensures ∙ sym (lcm_is c.args.a c.args.b)
