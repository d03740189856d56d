use Rattle.osc_base.proofs.Divisors.{greatest}
use Rattle.osc_base.proofs.Fractions.{decimal_lowest, decimal_positive, decimal_same, scale_divisor_above}
use Rattle.osc_base.proofs.fraction.Fraction.decimal.Goals as goal

pub nonzero_div-result : goal.nonzero_div-result
nonzero_div-result c = scale_divisor_above c.args.digits c.args.places c.from-digits.result c.pow-scale.result c.gcd-divisor.result
    c.if-digits-gt-MOST_DIGITS.false c.if-places-gt-MOST_PLACES.false c.from-digits.ensures c.pow-scale.ensures (greatest c.from-digits.result c.pow-scale.result c.gcd-divisor.result c.gcd-divisor.ensures)

pub nonzero_div-result-2 : goal.nonzero_div-result-2
nonzero_div-result-2 c = scale_divisor_above c.args.digits c.args.places c.from-digits.result c.pow-scale.result c.gcd-divisor.result
    c.if-digits-gt-MOST_DIGITS.false c.if-places-gt-MOST_PLACES.false c.from-digits.ensures c.pow-scale.ensures (greatest c.from-digits.result c.pow-scale.result c.gcd-divisor.result c.gcd-divisor.ensures)

pub invariant_of-result : goal.invariant_of-result
invariant_of-result c = record {
  positive = decimal_positive c.args.digits c.args.places c.from-digits.result c.pow-scale.result c.gcd-divisor.result
      c.if-digits-gt-MOST_DIGITS.false c.if-places-gt-MOST_PLACES.false c.from-digits.ensures c.pow-scale.ensures (greatest c.from-digits.result c.pow-scale.result c.gcd-divisor.result c.gcd-divisor.ensures);
}

pub returns-clause-value : goal.returns-clause-value
returns-clause-value c = decimal_same c.args.digits c.args.places c.from-digits.result c.pow-scale.result c.gcd-divisor.result
    c.if-digits-gt-MOST_DIGITS.false c.if-places-gt-MOST_PLACES.false c.from-digits.ensures c.pow-scale.ensures (greatest c.from-digits.result c.pow-scale.result c.gcd-divisor.result c.gcd-divisor.ensures)

pub returns-clause-lowest : goal.returns-clause-lowest
returns-clause-lowest c = decimal_lowest c.args.digits c.args.places c.from-digits.result c.pow-scale.result c.gcd-divisor.result
    c.if-digits-gt-MOST_DIGITS.false c.if-places-gt-MOST_PLACES.false c.from-digits.ensures c.pow-scale.ensures (greatest c.from-digits.result c.pow-scale.result c.gcd-divisor.result c.gcd-divisor.ensures)
