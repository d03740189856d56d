pub mod Held
pub mod Phases
pub mod Arguments
-- Crates below, for the crates above.
pub use Rattle.scene_expansion.specs.composition as composition
pub use Rattle.scene_expansion.specs.expansion_laws as expansion_laws
pub use Rattle.expr_nodes.specs as expr_nodes
pub use Rattle.scene_expansion.specs.program_calls as program_calls
pub use Rattle.program_texts.specs as program_texts
pub use Rattle.scene_expansion.specs as scene_expansion
pub use Rattle.expr_nodes.specs.type_heads as type_heads
