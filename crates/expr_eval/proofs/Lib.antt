pub mod ItemRows
pub mod Rows
pub mod Passing
pub mod Sizes
pub mod SoundNodes
pub mod SoundLeaves
pub mod SoundQuotients
pub mod SoundLaw
pub mod NarrowNodes
pub mod TypedForms
pub mod DivisorLaws
pub mod LowestTerms
pub mod ConstantValues
pub mod Resolved
pub mod Bounded
pub mod PathSteps
-- Crates below, for the crates above.
pub use Rattle.expr_typing.proofs as of_expr_typing
