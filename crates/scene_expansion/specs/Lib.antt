pub mod SeenWorks
pub mod Walks
pub mod AllCounts
-- Crates below, for the crates above.
pub use Rattle.program_calls.specs.composition as composition
pub use Rattle.scene_texts.specs.expansion_laws as expansion_laws
pub use Rattle.program_calls.specs.expr_nodes as expr_nodes
pub use Rattle.program_calls.specs as program_calls
pub use Rattle.scene_texts.specs as scene_texts
pub use Rattle.program_calls.specs.path_index as path_index
