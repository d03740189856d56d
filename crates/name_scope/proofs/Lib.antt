pub mod Tables
pub mod Numbering
pub mod Mentions
pub mod Places
pub mod HeadingRows
pub mod Worked
pub mod Finds
-- Crates below, for the crates above.
pub use Rattle.dsl_tree.proofs as of_dsl_tree
