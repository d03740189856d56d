pub mod Fetched
pub mod Laws
pub mod Lists
pub mod RecordAnswers
-- Crates below, for the crates above.
pub use Rattle.box_eval.specs as box_eval
pub use Rattle.record_trees.specs as record_trees
