pub mod FoundLines
pub mod Header
pub mod Lines
pub mod Nodes
pub mod Picked
pub mod PicksFields
pub mod Pieces
pub mod Progress
pub mod Reader
pub mod ReaderFields
pub mod Rest
pub mod Scan
pub mod Source
pub mod SourceFields
pub mod Stops
pub mod Text
pub mod TextLines
pub mod WholeLines
pub mod Written
-- Crates below, for the crates above.
pub use Rattle.box_eval.specs as box_eval
pub use Rattle.record_trees.specs as record_trees
pub use Rattle.linear_sums.specs as linear_sums
pub use Rattle.outside_io.specs as outside_io
