-- Laws of common divisors and multiples, for the code that cites them.
pub use Rattle.type_model.proofs.of_osc_base.Divisors.{gcd_above, lcm_is}
