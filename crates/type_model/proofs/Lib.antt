mod Ends
mod SoundUnits
pub mod TypeParts
mod LastNumbers
mod RowsTold
-- Crates below, for the crates above.
pub use Rattle.string_texts.proofs.of_osc_base as of_osc_base
pub use Rattle.string_texts.proofs.of_type_heads as of_type_heads
