pub mod Founds
pub mod Grouped
pub mod NodeRooms
pub mod NodeShapes
pub mod Rooms
pub mod RowCases
-- Crates below, for the crates above.
pub use Rattle.flat_terms.proofs.of_field_flatten as of_field_flatten
