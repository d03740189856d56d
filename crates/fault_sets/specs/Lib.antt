pub mod NameRows
pub mod Reaching
pub mod Ranking
pub mod Passing
