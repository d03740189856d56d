pub mod Answers
pub mod Forest
pub mod Halves
pub mod State
-- Crates below, for the crates above.
pub use Rattle.linear_sums.specs as linear_sums
pub use Rattle.record_trees.specs as record_trees
