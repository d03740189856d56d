pub mod Modest
pub mod Undone
