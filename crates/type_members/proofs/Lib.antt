mod Tasks
mod Listings
mod ListTests
mod Ancestry
mod Downward
mod Inheriting
mod Through
mod Depths
mod Blocks
mod Cuts
pub mod Moves
pub mod SeenInside
mod BareTypes
mod RowSteps
mod RowPlaces
mod Origins
-- Crates below, for the crates above.
pub use Rattle.type_heads.proofs.of_dsl_tree as of_dsl_tree
pub use Rattle.type_heads.proofs.of_name_scope as of_name_scope
pub use Rattle.type_heads.proofs.of_osc_base as of_osc_base
