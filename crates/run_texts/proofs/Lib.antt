pub mod PathForms
pub mod Told
pub mod Keys
