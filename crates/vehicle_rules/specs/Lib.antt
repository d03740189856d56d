pub mod Limits
pub mod Relations
