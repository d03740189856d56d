pub mod Loading
pub mod Outcome
pub mod SourceReading
pub mod Steps
