pub mod Durations
pub mod Firsts
pub mod Keys
-- Crates below, for the crates above.
pub use Rattle.osc_base.proofs as of_osc_base
