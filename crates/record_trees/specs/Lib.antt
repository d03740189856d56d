pub mod Guided
pub mod Record
pub mod Trees
