pub mod Modifiers
pub mod OwnCounts
pub mod Arguments
pub mod Parts
-- Crates below, for the crates above.
pub use Rattle.work_counts.specs.program_texts as program_texts
