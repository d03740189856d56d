-- Laws of the greatest common divisor, for the code that cites them.
pub use Rattle.units_si.proofs.of_osc_base.Divisors.{gcd_above_second, share_above}
