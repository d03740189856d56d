pub mod Empty
pub mod Lines
pub mod Narrowings
pub mod Settled
pub mod Ways
