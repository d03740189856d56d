pub mod LessRules
pub mod Kept
pub mod Asked
pub mod Truths
pub mod Pins
pub mod Others
