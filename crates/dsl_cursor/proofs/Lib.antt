pub mod Lengths
pub mod Loops
pub mod OtherRules
pub mod ReadParts
pub mod ReadSteps
pub mod RowSteps
