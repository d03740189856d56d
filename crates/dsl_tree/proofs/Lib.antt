pub mod Seen
pub mod SeenPhases
pub mod Tests
mod Worked
mod WorkedFaults
pub mod EachPart
pub mod Checked
pub mod Sets
pub mod Fits
pub mod Begins
pub mod Law
pub mod Shortest
pub mod Faults
pub mod RuleFaults
pub mod Build
pub mod OneTrees
pub mod Leaves
pub mod WholeForests
pub mod WrittenRows
pub mod FirstNames
pub mod Values
pub mod FileValues
pub mod Ends
pub mod TreeFiles
pub mod Classes
pub mod PartTrees
pub mod Cuts
pub mod Inverse
pub mod Tops
-- Crates below, for the crates above.
pub use Rattle.osc_base.proofs as of_osc_base
