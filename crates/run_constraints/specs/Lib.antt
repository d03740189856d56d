pub mod FirstConstraints
pub mod Watched
-- Crates below, for the crates above.
pub use Rattle.run_values.specs.field_flatten as field_flatten
pub use Rattle.run_values.specs.run_clauses as run_clauses
pub use Rattle.run_values.specs.run_entries as run_entries
pub use Rattle.run_values.specs as run_values
