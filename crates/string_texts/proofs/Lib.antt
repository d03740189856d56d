mod OrderedTexts
mod PhaseLaws
mod StringLaws
-- Crates below, for the crates above.
pub use Rattle.type_heads.proofs.of_osc_base as of_osc_base
pub use Rattle.type_heads.proofs as of_type_heads
