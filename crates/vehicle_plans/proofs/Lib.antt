pub mod Halvings
pub mod Joins
