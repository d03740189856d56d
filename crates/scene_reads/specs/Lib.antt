pub mod Readable
pub mod Vehicles
