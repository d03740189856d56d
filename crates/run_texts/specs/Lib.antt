pub mod PathForms
pub mod RunShape
pub mod RunReading
-- Crates below, for the crates above.
pub use Rattle.composition.specs as composition
