pub mod Texts
pub mod Match
pub mod Shared
pub mod Words
pub mod Seen
pub mod Parse
pub mod Taken
