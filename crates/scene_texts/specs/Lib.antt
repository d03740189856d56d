pub mod Capped
pub mod Moving
pub mod RowTokens
-- Crates below, for the crates above.
pub use Rattle.expansion_laws.specs.composition as composition
pub use Rattle.expansion_laws.specs as expansion_laws
pub use Rattle.expansion_laws.specs.expr_nodes as expr_nodes
