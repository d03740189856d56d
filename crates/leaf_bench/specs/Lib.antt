pub mod Rounds
pub mod Small
pub mod Turns
