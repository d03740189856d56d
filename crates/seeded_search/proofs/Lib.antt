pub mod Choices
pub mod Decidings
pub mod MarkLists
pub mod Narrowings
pub mod Presents
pub mod Probes
pub mod Searches
pub mod SlotLists
pub mod Tries
pub mod Turnings
pub mod UnknownLines
pub mod Wakings
pub mod Words
pub mod Working
-- Crates below, for the crates above.
pub use Rattle.search_laws.proofs.of_record_trees as of_record_trees
