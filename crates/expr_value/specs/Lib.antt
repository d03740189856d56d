pub mod Held
pub mod Counted
pub mod Rows
pub mod Words
pub mod Worth
-- Crates below, for the crates above.
pub use Rattle.expr_nodes.specs as expr_nodes
pub use Rattle.expr_nodes.specs.type_heads as type_heads
