pub mod Grids
pub mod Means
pub mod VehiclePlan
