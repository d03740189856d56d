pub mod Caps
pub mod TokenRows
pub mod TokenNodes
pub mod ArgumentTokens
pub mod MovedRows
pub mod MovedNodes
pub mod MovedTwice
-- Crates below, for the crates above.
pub use Rattle.expansion_laws.proofs as of_expansion_laws
