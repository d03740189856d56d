pub mod NodePairs
pub mod ItemChecks
pub mod Narrow
pub mod TypeAnswers
pub mod Known
pub mod DivisorValues
pub mod Resolved
pub mod Bounded
-- Crates below, for the crates above.
pub use Rattle.expr_nodes.specs as expr_nodes
pub use Rattle.expr_nodes.specs.type_heads as type_heads
pub use Rattle.dsl_tree.specs as dsl_tree
pub use Rattle.expr_nodes.specs.units_si as units_si
