pub mod RunPlaces
pub mod SeenRuns
-- Crates below, for the crates above.
pub use Rattle.composition.specs as composition
