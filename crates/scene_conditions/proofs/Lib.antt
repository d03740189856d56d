pub mod Keys
pub mod Gathering
