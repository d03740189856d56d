pub mod NameRows
pub mod Numbers
pub mod Places
pub mod SeenSlots
pub mod Tracks
-- Crates below, for the crates above.
pub use Rattle.flat_shapes.specs.box_eval as box_eval
pub use Rattle.flat_shapes.specs.composition as composition
pub use Rattle.flat_shapes.specs.field_flatten as field_flatten
pub use Rattle.flat_shapes.specs as flat_shapes
pub use Rattle.flat_shapes.specs.modifier_rules as modifier_rules
pub use Rattle.flat_shapes.specs.type_heads as type_heads
