pub mod Rooms
-- Crates below, for the crates above.
pub use Rattle.scene_slots.specs.modifier_rules as modifier_rules
pub use Rattle.scene_conditions.specs.composition as composition
pub use Rattle.scene_slots.specs.field_flatten as field_flatten
pub use Rattle.scene_conditions.specs as scene_conditions
pub use Rattle.scene_slots.specs as scene_slots
pub use Rattle.scene_slots.specs.flat_shapes as flat_shapes
