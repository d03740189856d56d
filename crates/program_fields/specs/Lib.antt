pub mod Parts
pub mod RowFacts
pub mod SeenFields
pub mod SeenSpots
pub mod Tables
-- Crates below, for the crates above.
pub use Rattle.type_members.specs as type_members
