pub mod Meanings
-- Crates below, for the crates above.
pub use Rattle.expr_nodes.specs as expr_nodes
pub use Rattle.expr_nodes.specs.name_scope as name_scope
pub use Rattle.expr_nodes.specs.type_heads as type_heads
pub use Rattle.expr_nodes.specs.units_si as units_si
