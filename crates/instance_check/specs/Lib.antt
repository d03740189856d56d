pub mod FirstWrong
pub mod Rightness
-- Crates below, for the crates above.
pub use Rattle.run_check.specs.composition as composition
pub use Rattle.run_check.specs.expr_nodes as expr_nodes
pub use Rattle.run_constraints.specs.field_flatten as field_flatten
pub use Rattle.run_check.specs as run_check
pub use Rattle.run_constraints.specs.run_values as run_values
