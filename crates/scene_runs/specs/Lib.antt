pub mod Entries
-- Crates below, for the crates above.
pub use Rattle.scene_slots.specs.field_flatten as field_flatten
