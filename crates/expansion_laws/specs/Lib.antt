pub mod Nodes
pub mod Works
pub mod WorkNodes
pub mod Counts
pub mod NodeCounts
pub mod Laid
-- Crates below, for the crates above.
pub use Rattle.composition.specs as composition
pub use Rattle.composition.specs.expr_nodes as expr_nodes
pub use Rattle.composition.specs.dsl_tree as dsl_tree
pub use Rattle.composition.specs.type_heads as type_heads
pub use Rattle.composition.specs.name_scope as name_scope
pub use Rattle.composition.specs.units_si as units_si
