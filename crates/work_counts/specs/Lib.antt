pub mod Amounts
pub mod TextAmounts
-- Crates below, for the crates above.
pub use Rattle.program_texts.specs.program_fields as program_fields
pub use Rattle.program_texts.specs as program_texts
