pub mod FileNumbers
pub mod Wanted
pub mod Declaring
pub mod Headings
pub mod Library
pub mod Tables
pub mod Sources
pub mod Seen
pub mod Earlier
-- Crates below, for the crates above.
pub use Rattle.dsl_tree.specs as dsl_tree
