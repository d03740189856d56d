pub mod NodeLists
pub mod WorkSteps
pub mod SceneCounts
pub mod Passing
pub mod LaidScenes
pub mod ScenarioFaults
pub mod NodeTotals
-- Crates below, for the crates above.
pub use Rattle.composition.proofs.of_expr_nodes as of_expr_nodes
