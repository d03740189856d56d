pub mod RunText
pub mod Answers
-- Crates below, for the crates above.
pub use Rattle.composition.specs as composition
pub use Rattle.composition.specs.expr_nodes as expr_nodes
pub use Rattle.composition.specs.keep_rules as keep_rules
pub use Rattle.composition.specs.type_heads as type_heads
