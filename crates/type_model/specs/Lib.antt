pub mod Kept
pub mod Built
pub mod RowRefs
-- Crates below, for the crates above.
pub use Rattle.string_texts.specs.dsl_tree as dsl_tree
pub use Rattle.string_texts.specs.name_scope as name_scope
pub use Rattle.string_texts.specs.osc_base as osc_base
pub use Rattle.string_texts.specs.type_heads as type_heads
pub use Rattle.type_tables.specs.type_members as type_members
pub use Rattle.string_texts.specs.units_si as units_si
