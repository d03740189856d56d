pub mod SeenFields
pub mod SeenTexts
pub mod Ranges
pub mod SeenConditions
pub mod Asked
pub mod OwnLabels
-- Crates below, for the crates above.
pub use Rattle.program_calls.specs.composition as composition
pub use Rattle.scene_texts.specs.expansion_laws as expansion_laws
pub use Rattle.program_calls.specs.expr_nodes as expr_nodes
pub use Rattle.program_calls.specs as program_calls
pub use Rattle.program_fields.specs as program_fields
pub use Rattle.scene_texts.specs as scene_texts
pub use Rattle.program_calls.specs.type_heads as type_heads
pub use Rattle.program_fields.specs.type_members as type_members
