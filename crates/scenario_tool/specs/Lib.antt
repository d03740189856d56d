pub mod Answers
pub mod Laws
pub mod Settings
pub mod FoundSources
pub mod Completeness
pub mod Written
pub mod Verified
