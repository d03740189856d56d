pub mod Sound
pub mod Truths
pub mod Watches
pub mod Overridden
pub mod Narrow
-- Crates below, for the crates above.
pub use Rattle.run_values.proofs.of_field_flatten as of_field_flatten
