mod ToldConditions
-- Crates below, for the crates above.
pub use Rattle.type_model.proofs.of_type_heads as of_type_heads
