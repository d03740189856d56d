pub mod Replies
pub mod Reply
pub mod ShortRecords
pub mod Shelves
-- Crates below, for the crates above.
pub use Rattle.program_load.specs as program_load
pub use Rattle.record_text.specs as record_text
