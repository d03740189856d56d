pub mod OneAnswer
pub mod Points
pub mod Short
-- Crates below, for the crates above.
pub use Rattle.record_text.specs as record_text
pub use Rattle.refute_check.specs as refute_check
