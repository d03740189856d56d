pub mod Keys
-- Crates below, for the crates above.
pub use Rattle.composition.proofs as of_composition
pub use Rattle.composition.proofs.of_path_index as of_path_index
