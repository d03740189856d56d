pub mod Sums
mod PartSums
pub mod TextLaws
pub mod InitialForms
pub mod HeirForms
