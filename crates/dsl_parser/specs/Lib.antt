pub mod Answers
pub mod Members
pub mod Phases
pub mod Words
