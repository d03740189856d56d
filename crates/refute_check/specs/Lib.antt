pub mod Answers
pub mod Judged
pub mod Stack
pub mod StackFields
pub mod Walk
