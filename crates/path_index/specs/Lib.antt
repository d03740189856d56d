pub mod Places
-- Crates below, for the crates above.
pub use Rattle.osc_base.specs as osc_base
