pub mod Overriding
pub mod TargetRows
pub mod TargetLists
-- Crates below, for the crates above.
pub use Rattle.path_index.specs as path_index
