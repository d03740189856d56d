pub mod TraceShape
pub mod TraceReading
-- Crates below, for the crates above.
pub use Rattle.asked_forms.specs as asked_forms
