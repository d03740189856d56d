pub mod Kinds
pub mod Typed
pub mod Value
pub mod Scope
pub mod Ways
pub mod Sizes
pub mod Parts
pub mod Names
pub mod Operators
pub mod Fits
pub mod Typing
pub mod Sound
pub mod Means
pub mod Seen
pub mod SeenNames
pub mod Checks
pub mod NoReads
-- Crates below, for the crates above.
pub use Rattle.type_model.specs.dsl_tree as dsl_tree
pub use Rattle.type_model.specs.name_scope as name_scope
pub use Rattle.type_model.specs.type_heads as type_heads
pub use Rattle.type_model.specs.units_si as units_si
pub use Rattle.type_model.specs.osc_base as osc_base
