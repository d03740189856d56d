pub mod OneFile
pub mod OneRun
pub mod Loaded
pub mod Answered
pub mod PlainRuns
