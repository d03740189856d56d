pub mod NoFloat
pub mod Rows
