pub mod RoundTrips
pub mod WrittenRuns
-- Crates below, for the crates above.
pub use Rattle.run_check.specs as run_check
pub use Rattle.run_check.specs.composition as composition
pub use Rattle.run_check.specs.type_heads as type_heads
pub use Rattle.run_check.specs.expr_nodes as expr_nodes
