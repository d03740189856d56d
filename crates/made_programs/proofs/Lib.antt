mod Rows
mod Worked
-- Crates below, for the crates above.
pub use Rattle.program_load.proofs as of_program_load
