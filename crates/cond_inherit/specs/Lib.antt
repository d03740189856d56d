pub mod Conditions
pub mod SubtypeConditions
-- Crates below, for the crates above.
pub use Rattle.type_model.specs.dsl_tree as dsl_tree
pub use Rattle.type_model.specs.name_scope as name_scope
pub use Rattle.type_model.specs.type_heads as type_heads
