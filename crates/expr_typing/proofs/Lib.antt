pub mod Elements
pub mod Forms
pub mod Indexes
pub mod LiteralUnits
pub mod NameMeanings
pub mod SlotValues
-- Crates below, for the crates above.
pub use Rattle.typed_parts.proofs.Firsts as Firsts
pub use Rattle.typed_parts.proofs.Results as Results
pub use Rattle.typed_parts.proofs.Settled as Settled
pub use Rattle.typed_parts.proofs.StepFaults as StepFaults
pub use Rattle.expr_nodes.proofs as of_expr_nodes
