pub mod Added
pub mod Desks
pub mod Draws
pub mod Joined
pub mod Listed
pub mod Lows
pub mod MarkList
pub mod Outcomes
pub mod Probe
pub mod Rooms
pub mod Runs
pub mod SlotLists
pub mod Waking
-- Crates below, for the crates above.
pub use Rattle.search_laws.specs.linear_sums as linear_sums
pub use Rattle.search_laws.specs.record_trees as record_trees
pub use Rattle.search_laws.specs as search_laws
pub use Rattle.search_plans.specs as search_plans
