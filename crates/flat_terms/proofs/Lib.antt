pub mod Rounds
pub mod Shares
-- Crates below, for the crates above.
pub use Rattle.field_flatten.proofs as of_field_flatten
