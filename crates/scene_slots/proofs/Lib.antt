pub mod FirstPlaces
pub mod SlotNumbers
pub mod QuerySteps
pub mod NameSteps
-- Crates below, for the crates above.
pub use Rattle.flat_shapes.proofs.of_field_flatten as of_field_flatten
pub use Rattle.flat_shapes.proofs as of_flat_shapes
