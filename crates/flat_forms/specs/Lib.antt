pub mod SoundParts
-- Crates below, for the crates above.
pub use Rattle.scene_rules.specs.composition as composition
pub use Rattle.slot_ends.specs.field_flatten as field_flatten
