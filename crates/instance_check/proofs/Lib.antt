pub mod FirstClaims
pub mod Inside
-- Crates below, for the crates above.
pub use Rattle.run_constraints.proofs.of_field_flatten as of_field_flatten
