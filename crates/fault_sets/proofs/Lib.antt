mod FreshNumbers
pub mod KeySets
pub mod Rounds
pub mod RowSteps
pub mod Ranked
mod Passed
pub mod TypeNumbers
