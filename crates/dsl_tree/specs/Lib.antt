pub mod ExprTree
pub mod PhaseTree
pub mod FileTree
pub mod Views
pub mod Codes
pub mod Grammar
pub mod Forest
pub mod Written
pub mod WrittenPhases
pub mod WrittenFile
pub mod WrittenTails
pub mod Language
pub mod Examples
pub mod PartLists
pub mod Lookahead
pub mod Reading
-- Crates below, for the crates above.
pub use Rattle.osc_base.specs as osc_base
