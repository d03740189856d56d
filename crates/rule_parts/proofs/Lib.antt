pub mod Values
-- Crates below, for the crates above.
pub use Rattle.scene_slots.proofs.of_field_flatten as of_field_flatten
pub use Rattle.scene_slots.proofs as of_scene_slots
