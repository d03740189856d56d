pub mod FacingPairs
pub mod Linear
pub mod Multiple
pub mod Splits
pub mod Steps
pub mod Sums
pub mod Twos
