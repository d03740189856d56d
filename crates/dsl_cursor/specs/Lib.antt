pub mod Cursor
pub mod Descent
pub mod Rows
pub mod Terms
pub mod Words
