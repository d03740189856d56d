pub mod Sides
-- Crates below, for the crates above.
pub use Rattle.rule_parts.specs.Rooms as Rooms
pub use Rattle.rule_parts.specs.composition as composition
pub use Rattle.expr_nodes.specs as expr_nodes
