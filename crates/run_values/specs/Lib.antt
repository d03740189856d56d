pub mod Frames
pub mod SeenCourses
pub mod SeenNumbers
-- Crates below, for the crates above.
pub use Rattle.expr_value.specs as expr_value
pub use Rattle.field_flatten.specs as field_flatten
pub use Rattle.field_flatten.specs.modifier_rules as modifier_rules
pub use Rattle.run_clauses.specs as run_clauses
pub use Rattle.run_clauses.specs.run_entries as run_entries
pub use Rattle.field_flatten.specs.composition as composition
pub use Rattle.field_flatten.specs.cond_inherit as cond_inherit
