pub mod Listing
pub mod Latest
-- Crates below, for the crates above.
pub use Rattle.run_entries.specs as run_entries
