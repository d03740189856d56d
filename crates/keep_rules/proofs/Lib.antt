pub mod RowLaws
pub mod OwnPlaces
-- Crates below, for the crates above.
pub use Rattle.path_index.proofs as of_path_index
