pub mod Ends
pub mod Faced
pub mod Forests
pub mod Halves
pub mod Lists
pub mod Lively
pub mod Steps
-- Crates below, for the crates above.
pub use Rattle.record_trees.proofs as of_record_trees
