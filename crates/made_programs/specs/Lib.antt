pub mod MadeLoads
pub mod MadeText
-- Crates below, for the crates above.
pub use Rattle.program_load.specs as program_load
