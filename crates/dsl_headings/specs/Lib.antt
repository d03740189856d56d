pub mod Headings
pub mod Units
pub mod Words
