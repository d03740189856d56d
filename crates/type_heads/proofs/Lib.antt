mod Divisors
pub mod Hits
pub mod EnumTables
pub mod PlacedFiles
pub mod NameTables
pub mod Groups
pub mod Gathering
pub mod Bases
pub mod HeadLists
pub mod BodyLists
pub mod FileLists
pub mod LineSteps
pub mod LineClimbs
-- Crates below, for the crates above.
pub use Rattle.name_scope.proofs.of_dsl_tree as of_dsl_tree
pub use Rattle.name_scope.proofs as of_name_scope
pub use Rattle.units_si.proofs.of_osc_base as of_osc_base
