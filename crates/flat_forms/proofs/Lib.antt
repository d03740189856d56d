pub mod Defaults
pub mod ItemRows
pub mod RowSteps
pub mod SceneParts
-- Crates below, for the crates above.
pub use Rattle.slot_ends.proofs.of_field_flatten as of_field_flatten
