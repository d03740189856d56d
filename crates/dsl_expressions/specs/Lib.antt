pub mod Arguments
pub mod Levels
pub mod Words
