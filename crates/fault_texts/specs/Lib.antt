pub mod Said
pub mod Table
pub mod Topics
pub mod Explained
