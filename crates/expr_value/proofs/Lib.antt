pub mod Falls
pub mod Bounds
pub mod Shapes
pub mod SoundParts
pub mod RowSteps
pub mod NodeCounts
pub mod Scales
pub mod Worths
pub mod HeldParts
pub mod ValueLaws
-- Crates below, for the crates above.
pub use Rattle.expr_nodes.proofs as of_expr_nodes
