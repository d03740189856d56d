mod EntryRows
mod SceneSizes
mod SlotBounds
-- Crates below, for the crates above.
pub use Rattle.scene_slots.proofs.of_field_flatten as of_field_flatten
