pub mod Premises
pub mod JudgedTexts
pub mod CheckableLaws
-- Crates below, for the crates above.
pub use Rattle.run_values.specs.composition as composition
pub use Rattle.expr_eval.specs.expr_nodes as expr_nodes
pub use Rattle.run_values.specs.field_flatten as field_flatten
pub use Rattle.run_values.specs as run_values
pub use Rattle.scene_laws.specs as scene_laws
pub use Rattle.expr_eval.specs.type_heads as type_heads
