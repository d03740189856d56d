pub mod ShortRecords
-- Crates below, for the crates above.
pub use Rattle.record_text.proofs as of_record_text
